-- Tags, hexadecimal digits and base64 are words of an entry.
use Rattle.std.proofs.Common.{◌≡◌, ℕ, ◌+◌, ◌/◌, ◌%◌, ◌<◌, Bool, true, false, ◌&&◌, List, [], ◌∷◌, ◌++◌, length, get_or, refl, ap, subst, ◌∙◌, arith}
use Rattle.std.specs.Prelude.{◌≢◌, nat_lt, if◌then◌else◌}
use Rattle.std.specs.List.{AllByRecursion}
use Rattle.std.specs.Str.{bytes_eq}
use Rattle.std.proofs.lemmas.Bool.Decides.{nat_tests}
use Rattle.std.proofs.lemmas.Slice.Eq.{bytes_eq-Decides}
use Rattle.dns_names.specs.Print.{octets_text, label_text}
use Rattle.dns_names.specs.Parse.{is_plain_octet}
use Rattle.dns_text.specs.Front.{Bare, stops}
use Rattle.dns_text.specs.Lexer.{CharData, word_token}
use Rattle.dns_text.specs.Tokens.{IsRun, no_character, one_character, IsDatum}
use Rattle.dns_text.proofs.TokenGrammarLaws.{unequal, tested}
use Rattle.dns_formats.specs.Value.{is_tag_octet, are_tag_octets, is_tag}

-- a character above `)`, but for `;`, `@` and `\`
abbrev pub IsTame : ℕ → Type 0
IsTame c = (41 < c) × (c ≢ 59) × (c ≢ 64) × (c ≢ 92)

on_word : (c : ℕ) → IsTame c → stops Bare c ≡ false
on_word c is =
    let a : c ≢ 32 = omega arith in
    let b : c ≢ 9 = omega arith in
    let d : c ≢ 34 = omega arith in
    let e : c ≢ 40 = omega arith in
    let f : c ≢ 41 = omega arith in
    rw (unequal c 32 a, unequal c 9 b, unequal c 59 is.1, unequal c 34 d, unequal c 40 e, unequal c 41 f) refl

tame_run : (text : List ℕ) → AllByRecursion IsTame text → IsRun Bare text
tame_run [] are = no_character
tame_run (c ∷ cs) are = one_character (omega (arith, are.0.0)) (omega (arith, are.0.0)) (on_word c are.0) are.0.3 (tame_run cs are.1)

pub unlike : (text : List ℕ) (c : ℕ) (cs : List ℕ) → get_or text 0 0 ≢ c → bytes_eq text (c ∷ cs) ≡ false
unlike text c cs n = tested (bytes_eq text (c ∷ cs)) (λ e. absurd (n (ap (λ (l : List ℕ). get_or l 0 0) ((bytes_eq-Decides text (c ∷ cs)).0 e)))) (λ e. e)

no_directive : (text : List ℕ) → get_or text 0 0 ≢ 64 → get_or text 0 0 ≢ 36 → word_token true text ≡ CharData text
no_directive text n m = rw (unlike text 64 [] n, unlike text 36 _ m, unlike text 36 _ m, unlike text 36 _ m) refl

-- a word that is no `\#`, either
pub record IsPlainWord (text : List ℕ) : Type 0 where
  pub datum : IsDatum (CharData text)
  pub special : bytes_eq text (92 ∷ 35 ∷ []) ≡ false

pub tame_word : (text : List ℕ) → 0 < length text → AllByRecursion IsTame text → IsPlainWord text
tame_word [] some are = absurd (omega arith)
tame_word (c ∷ cs) some are = record {
  datum = (some, tame_run (c ∷ cs) are, no_directive (c ∷ cs) are.0.2 (omega (arith, are.0.0)));
  special = unlike (c ∷ cs) 92 (35 ∷ []) are.0.3;
}

-- ---- tags

pub tag_tame : (c : ℕ) → is_tag_octet c ≡ true → IsTame c
tag_tame c e = (low c e, other c e 59 refl, other c e 64 refl, other c e 92 refl)
  where
    low : (k : ℕ) → is_tag_octet k ≡ true → 41 < k
    low k q = grind (arith, nat_tests)

    other : (k : ℕ) → is_tag_octet k ≡ true → (m : ℕ) → is_tag_octet m ≡ false → k ≢ m
    other k q m fails same = let passes : is_tag_octet m ≡ true = subst (λ (x : ℕ). is_tag_octet x ≡ true) same q in absurd (cc)

first_of : (a b : Bool) → (a && b) ≡ true → a ≡ true
first_of true b e = refl
first_of false b e = e

second_of : (a b : Bool) → (a && b) ≡ true → b ≡ true
second_of true b e = e
second_of false b e = absurd (cc)

tags_tame : (tag : List ℕ) → are_tag_octets tag ≡ true → AllByRecursion IsTame tag
tags_tame [] e = tt
tags_tame (c ∷ cs) e = (tag_tame c (first_of (is_tag_octet c) (are_tag_octets cs) e), tags_tame cs (second_of (is_tag_octet c) (are_tag_octets cs) e))

pub tag_octets : (tag : List ℕ) → is_tag tag ≡ true → are_tag_octets tag ≡ true
tag_octets tag e = second_of (nat_lt (length tag) 256) (are_tag_octets tag) (second_of (nat_lt 0 (length tag)) _ e)

pub tag_some : (tag : List ℕ) → is_tag tag ≡ true → 0 < length tag
tag_some tag e = some (length tag) (first_of (nat_lt 0 (length tag)) (nat_lt (length tag) 256 && are_tag_octets tag) e)
  where
    some : (n : ℕ) → nat_lt 0 n ≡ true → 0 < n
    some n q = grind (arith, nat_tests)

pub tag_word : (tag : List ℕ) → is_tag tag ≡ true → IsPlainWord tag
tag_word tag e = tame_word tag (tag_some tag e) (tags_tame tag (tag_octets tag e))

tag_plain : (is_first : Bool) (c : ℕ) → is_tag_octet c ≡ true → is_plain_octet is_first c ≡ true
tag_plain is_first c e = grind (arith, nat_tests)

tag_text : (is_first : Bool) (tag : List ℕ) → are_tag_octets tag ≡ true → octets_text is_first tag ≡ tag
tag_text is_first [] e = refl
tag_text is_first (c ∷ cs) e =
    ap (λ (b : Bool). (if b then c ∷ [] else 92 ∷ (48 + c / 100) ∷ (48 + c / 10 % 10) ∷ (48 + c % 10) ∷ []) ++ octets_text false cs) (tag_plain is_first c (first_of (is_tag_octet c) (are_tag_octets cs) e))
    ∙ ap (λ (l : List ℕ). c ∷ l) (tag_text false cs (second_of (is_tag_octet c) (are_tag_octets cs) e))

-- a tag is a label that needs no escape
pub tag_label : (tag : List ℕ) → is_tag tag ≡ true → label_text tag ≡ tag
tag_label tag e = tag_text true tag (tag_octets tag e)
