-- Mnemonics, one after another, and what the names of types are read as.
use Rattle.std.proofs.Common.{◌≡◌, ℕ, suc, ◌+◌, ◌<◌, Bool, true, false, ◌&&◌, List, [], ◌∷◌, length, drop, get_or, map, Option, Some, None, refl, sym, ap, ◌∙◌, arith}
use Rattle.std.specs.Prelude.{◌==◌, if◌then◌else◌}
use denote.Ref.{Bor}
use Rattle.std.specs.Str.{str_eq_ignore_ascii_case}
use Rattle.std.proofs.Math.Seq.{drop-cons}
use Rattle.std.proofs.lemmas.Bool.Decides.{nat_tests}
use Rattle.dns_wire.specs.codes.CodeText.{type_text, type_of_text, or_else}
use Rattle.dns_wire.specs.codes.RecordType.{type_of}
use Rattle.dns_wire.specs.declared.codes.record_type.RecordType.{RecordType}
use Rattle.dns_fields.specs.bitmaps.TypeWord.{number_among, name_among, other_types, type_with, type_of_word, name_or_text, word_of_type}

-- ---- mnemonics

at_line : (words : List (Bor (List ℕ) × ℕ)) (i : ℕ) (d : Bor (List ℕ) × ℕ) → i < length words → drop i words ≡ get_or words i d ∷ drop (i + 1) words
at_line words i d within = let one : suc i ≡ i + 1 = omega arith in drop-cons words i d within ∙ ap (λ n. get_or words i d ∷ drop n words) one

abbrev lines : List (Bor (List ℕ) × ℕ) → List (List ℕ × ℕ)
lines words = map (λ line. (line.0.now, line.1)) words

at_word : (words : List (Bor (List ℕ) × ℕ)) (i : ℕ) (d : Bor (List ℕ) × ℕ) (text : List ℕ) → i < length words
    → number_among (lines (drop i words)) text
    ≡ (if str_eq_ignore_ascii_case (get_or words i d).0.now text then Some (get_or words i d).1 else number_among (lines (drop (i + 1) words)) text)
at_word words i d text here = ap (λ (l : List (Bor (List ℕ) × ℕ)). number_among (lines l) text) (at_line words i d here)

pub word_further : (words : List (Bor (List ℕ) × ℕ)) (i : ℕ) (d : Bor (List ℕ) × ℕ) (text word : List ℕ) (whole : Option ℕ) → i < length words → word ≡ (get_or words i d).0.now
    → str_eq_ignore_ascii_case word text ≡ false → number_among (lines (drop i words)) text ≡ whole → number_among (lines (drop (i + 1) words)) text ≡ whole
word_further words i d text word whole here is other e =
    sym (at_word words i d text here ∙ ap (λ (b : Bool). if b then Some (get_or words i d).1 else number_among (lines (drop (i + 1) words)) text) (ap (λ (w : List ℕ). str_eq_ignore_ascii_case w text) (sym is) ∙ other)) ∙ e

pub word_found : (words : List (Bor (List ℕ) × ℕ)) (i : ℕ) (d : Bor (List ℕ) × ℕ) (text word : List ℕ) (whole : Option ℕ) → i < length words → word ≡ (get_or words i d).0.now
    → str_eq_ignore_ascii_case word text ≡ true → number_among (lines (drop i words)) text ≡ whole → Some (get_or words i d).1 ≡ whole
word_found words i d text word whole here is same e =
    sym (at_word words i d text here ∙ ap (λ (b : Bool). if b then Some (get_or words i d).1 else number_among (lines (drop (i + 1) words)) text) (ap (λ (w : List ℕ). str_eq_ignore_ascii_case w text) (sym is) ∙ same)) ∙ e

-- ---- the names of types

equal : (n m : ℕ) → (n == m) ≡ true → n ≡ m
equal n m q = grind (arith, nat_tests)

first_of : (a b : Bool) → (a && b) ≡ true → a ≡ true
first_of true b e = refl
first_of false b e = e

second_of : (a b : Bool) → (a && b) ≡ true → b ≡ true
second_of true b e = e
second_of false b e = absurd (cc)

abbrev is_no_type : Option RecordType → Bool
is_no_type None = true
is_no_type (Some record_type) = false

abbrev has_number : ℕ → Option ℕ → Bool
has_number number None = false
has_number number (Some other) = other == number

-- names that are no names of `RecordType`, and have their numbers in a table
abbrev are_named : List (List ℕ × ℕ) → List (List ℕ × ℕ) → Bool
are_named table [] = true
are_named table (line ∷ lines) = (is_no_type (type_of_text line.0) && has_number line.1 (number_among table line.0)) && are_named table lines

named : are_named other_types other_types ≡ true
named = refl

none_of : (o : Option RecordType) → is_no_type o ≡ true → o ≡ None
none_of None e = refl
none_of (Some record_type) e = absurd (cc)

number_of : (n : ℕ) (o : Option ℕ) → has_number n o ≡ true → o ≡ Some n
number_of n None e = absurd (cc)
number_of n (Some m) e = ap (λ (k : ℕ). Some k) (equal m n e)

name_is : (a b : List ℕ) → ◌≡◌ {A = Option (List ℕ)} (Some a) (Some b) → a ≡ b
name_is a b e = cc

name_back : (table lines : List (List ℕ × ℕ)) (number : ℕ) (name : List ℕ) → are_named table lines ≡ true → name_among lines number ≡ Some name
    → (type_of_text name ≡ None) × (number_among table name ≡ Some number)
name_back table [] number name e q = absurd (cc)
name_back table (line ∷ lines) number name e q =
    by (line.1 == number) refl q (λ r. name_back table lines number name (second_of (is_no_type (type_of_text line.0) && has_number line.1 (number_among table line.0)) (are_named table lines) e) r)
  where
    here : (is_no_type (type_of_text line.0) && has_number line.1 (number_among table line.0)) ≡ true
    here = first_of (is_no_type (type_of_text line.0) && has_number line.1 (number_among table line.0)) (are_named table lines) e

    by : (b : Bool) → (line.1 == number) ≡ b → (if b then Some line.0 else name_among lines number) ≡ Some name
        → (name_among lines number ≡ Some name → (type_of_text name ≡ None) × (number_among table name ≡ Some number))
        → (type_of_text name ≡ None) × (number_among table name ≡ Some number)
    by true r q rest =
        let same : line.0 ≡ name = name_is line.0 name q in (
          ap type_of_text (sym same) ∙ none_of (type_of_text line.0) (first_of (is_no_type (type_of_text line.0)) (has_number line.1 (number_among table line.0)) here),
          ap (number_among table) (sym same) ∙ number_of line.1 (number_among table line.0) (second_of (is_no_type (type_of_text line.0)) (has_number line.1 (number_among table line.0)) here)
              ∙ ap (λ (k : ℕ). Some k) (equal line.1 number r),
        )
    by false r q rest = rest q

-- the word for a type is read as the type
pub word_back : (n : ℕ) → type_of_text (type_text (type_of n)) ≡ Some (type_of n) → type_of_word (word_of_type n) ≡ Some (type_of n)
word_back n own = by (name_among other_types n) refl
  where
    by : (o : Option (List ℕ)) → name_among other_types n ≡ o → type_of_word (name_or_text o n) ≡ Some (type_of n)
    by None q = ap (λ (r : Option RecordType). or_else r (type_with (number_among other_types (type_text (type_of n))))) own
    by (Some name) q =
        let p = name_back other_types other_types n name named q in
        ap (λ (r : Option RecordType). or_else r (type_with (number_among other_types name))) p.0 ∙ ap type_with p.1
