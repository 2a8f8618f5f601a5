-- The text of a parameter is a word of a zone file, and parts into its key and its value.
use Rattle.std.proofs.Common.{◌≡◌, ℕ, suc, ◌+◌, ◌%◌, ◌<◌, ◌≤◌, ◌^◌, Bool, true, false, ◌&&◌, List, [], ◌∷◌, ◌++◌, length, take, drop, get_or, Option, Some, None, refl, ap, subst, ◌∙◌, arith}
use Rattle.std.specs.Prelude.{◌==◌, ◌≢◌, not, nat_le, if◌then◌else◌}
use Rattle.std.specs.Fmt.{decimal}
use Rattle.std.specs.List.{AllByRecursion, position_or_len}
use Rattle.std.specs.Str.{bytes_eq}
use Rattle.std.proofs.lemmas.Bool.Decides.{nat_tests}
use Rattle.std.proofs.lemmas.Fmt.{decimal_by_steps}
use Rattle.std.proofs.lemmas.Slice.Eq.{bytes_eq-Decides}
use Rattle.dns_names.specs.Print.{AreOctets}
use Rattle.dns_text.specs.CharacterString.{unescaped}
use Rattle.dns_text.specs.Front.{Bare}
use Rattle.dns_text.specs.Lexer.{CharData, word_token}
use Rattle.dns_text.specs.Tokens.{IsRun, no_character, IsDatum}
use Rattle.dns_text.proofs.TokenGrammarLaws.{tested, unequal}
use Rattle.dns_fields.specs.service.Key.{keys}
use Rattle.dns_fields.specs.service.Text.{word_text, name_among, name_or_number, key_name, value_octets, value_part, parameter_text}
use Rattle.dns_fields.proofs.LoopLaws.{first_of, second_of}
use Rattle.dns_fields.proofs.PlainLaws.{are_simple, simple_plain, key_simple}
use Rattle.dns_fields.proofs.ValueBackLaws.{text_octets, value_are}
use Rattle.dns_fields.proofs.WordBackLaws.{word_back, plain_before, word_run}

-- ---- names

all_then : (P : ℕ → Type 0) (cs : List ℕ) (c : ℕ) → AllByRecursion P cs → P c → AllByRecursion P (cs ++ c ∷ [])
all_then P [] c all is = (is, tt)
all_then P (d ∷ cs) c all is = (all.0, all_then P cs c all.1 is)

abbrev IsNoSign : ℕ → Type 0
IsNoSign c = (c == 61) ≡ false

low_sign : (c : ℕ) → c < 61 → IsNoSign c
low_sign c low = unequal c 61 (omega arith)

decimal_signs : (n : ℕ) → n < 2 ^ 64 → AllByRecursion IsNoSign (decimal n)
decimal_signs = decimal_by_steps (λ n ds. AllByRecursion IsNoSign ds) (λ n small. (low_sign (48 + n) (omega arith), tt)) (λ n ds great all. all_then IsNoSign ds (48 + n % 10) all (low_sign (48 + n % 10) (omega arith)))

abbrev are_no_signs : List ℕ → Bool
are_no_signs [] = true
are_no_signs (c ∷ cs) = not (c == 61) && are_no_signs cs

not_true : (b : Bool) → not b ≡ true → b ≡ false
not_true true e = absurd (cc)
not_true false e = refl

signs_are : (cs : List ℕ) → are_no_signs cs ≡ true → AllByRecursion IsNoSign cs
signs_are [] e = tt
signs_are (c ∷ cs) e = (not_true (c == 61) (first_of (not (c == 61)) (are_no_signs cs) e), signs_are cs (second_of (not (c == 61)) (are_no_signs cs) e))

-- names that begin with a letter and have no `=`
abbrev are_names : List (List ℕ × ℕ) → Bool
are_names [] = true
are_names (line ∷ lines) = (nat_le 97 (get_or line.0 0 0) && are_no_signs line.0) && are_names lines

names : are_names keys ≡ true
names = refl

name_is : (a b : List ℕ) → ◌≡◌ {A = Option (List ℕ)} (Some a) (Some b) → a ≡ b
name_is a b e = cc

at_most : (a b : ℕ) → nat_le a b ≡ true → a ≤ b
at_most a b q = grind (arith, nat_tests)

abbrev IsName : List ℕ → Type 0
IsName name = (97 ≤ get_or name 0 0) × AllByRecursion IsNoSign name

name_among_is : (lines : List (List ℕ × ℕ)) (key : ℕ) (name : List ℕ) → are_names lines ≡ true → name_among lines key ≡ Some name → IsName name
name_among_is [] key name e q = absurd (cc)
name_among_is (line ∷ lines) key name e q = by (line.1 == key) q (λ r. name_among_is lines key name (second_of (nat_le 97 (get_or line.0 0 0) && are_no_signs line.0) (are_names lines) e) r)
  where
    here : (nat_le 97 (get_or line.0 0 0) && are_no_signs line.0) ≡ true
    here = first_of (nat_le 97 (get_or line.0 0 0) && are_no_signs line.0) (are_names lines) e

    by : (b : Bool) → (if b then Some line.0 else name_among lines key) ≡ Some name → (name_among lines key ≡ Some name → IsName name) → IsName name
    by true r rest =
        subst IsName (name_is line.0 name r)
        (at_most 97 (get_or line.0 0 0) (first_of (nat_le 97 (get_or line.0 0 0)) (are_no_signs line.0) here), signs_are line.0 (second_of (nat_le 97 (get_or line.0 0 0)) (are_no_signs line.0) here))
    by false r rest = rest r

key_is : (key : ℕ) → key < 2 ^ 64 → IsName (key_name key)
key_is key small = by (name_among keys key) refl
  where
    by : (o : Option (List ℕ)) → name_among keys key ≡ o → IsName (name_or_number o key)
    by None q = (omega arith, (refl, (refl, (refl, decimal_signs key small))))
    by (Some name) q = name_among_is keys key name names q

-- ---- parts of the text

abbrev sign_at : List ℕ → ℕ
sign_at text = position_or_len (λ c. c == 61) text

name_end : (name part : List ℕ) → AllByRecursion IsNoSign name → sign_at part ≡ 0 → sign_at (name ++ part) ≡ length name
name_end [] part apart e = e
name_end (c ∷ cs) part apart e = let rest = name_end cs part apart.1 e in rw apart.0 (omega (arith, rest))

part_begins : (value octets : List ℕ) → sign_at (value_part value octets) ≡ 0
part_begins value octets = by (length value == 0)
  where
    by : (t : Bool) → sign_at (if t then [] else 61 ∷ word_text octets) ≡ 0
    by true = refl
    by false = refl

pub text_end : (key : ℕ) (value : List ℕ) → key < 2 ^ 64 → sign_at (parameter_text key value) ≡ length (key_name key)
text_end key value small = name_end (key_name key) (value_part value (value_octets key value)) (key_is key small).1 (part_begins value (value_octets key value))

take_front : (xs ys : List ℕ) → take (length xs) (xs ++ ys) ≡ xs
take_front [] ys = by ys
  where
    by : (zs : List ℕ) → take 0 zs ≡ []
    by [] = refl
    by (z ∷ zs) = refl
take_front (x ∷ xs) ys = ap (λ (l : List ℕ). x ∷ l) (take_front xs ys)

pub text_name : (key : ℕ) (value : List ℕ) → key < 2 ^ 64 → take (sign_at (parameter_text key value)) (parameter_text key value) ≡ key_name key
text_name key value small = ap (λ (n : ℕ). take n (parameter_text key value)) (text_end key value small) ∙ take_front (key_name key) (value_part value (value_octets key value))

drop_past : (xs ys : List ℕ) → drop (length xs + 1) (xs ++ ys) ≡ drop 1 ys
drop_past [] ys = refl
drop_past (x ∷ xs) ys = let next : length (x ∷ xs) + 1 ≡ suc (length xs + 1) = omega arith in ap (λ (n : ℕ). drop n (x ∷ xs ++ ys)) next ∙ drop_past xs ys

part_value : (key : ℕ) (value : List ℕ) → AreOctets value → unescaped (drop 1 (value_part value (value_octets key value))) ≡ Some (text_octets key value)
part_value key value are = by (length value == 0)
  where
    by : (t : Bool) → unescaped (drop 1 (if t then [] else 61 ∷ word_text (value_octets key value))) ≡ Some (if t then [] else value_octets key value)
    by true = refl
    by false = word_back (value_octets key value) (value_are key value are)

pub text_value : (key : ℕ) (value : List ℕ) → key < 2 ^ 64 → AreOctets value → unescaped (drop (sign_at (parameter_text key value) + 1) (parameter_text key value)) ≡ Some (text_octets key value)
text_value key value small are =
    ap (λ (n : ℕ). unescaped (drop (n + 1) (parameter_text key value))) (text_end key value small)
    ∙ ap unescaped (drop_past (key_name key) (value_part value (value_octets key value)))
    ∙ part_value key value are

-- ---- words

simple_run : (text rest : List ℕ) → are_simple text ≡ true → IsRun Bare rest → IsRun Bare (text ++ rest)
simple_run [] rest e more = more
simple_run (c ∷ cs) rest e more = let p = simple_plain c cs e in plain_before c (cs ++ rest) p.0 (simple_run cs rest p.1 more)

part_run : (key : ℕ) (value : List ℕ) → AreOctets value → IsRun Bare (value_part value (value_octets key value))
part_run key value are = by (length value == 0)
  where
    by : (t : Bool) → IsRun Bare (if t then [] else 61 ∷ word_text (value_octets key value))
    by true = no_character
    by false = plain_before 61 (word_text (value_octets key value)) refl (word_run (value_octets key value) (value_are key value are))

unlike : (text : List ℕ) (c : ℕ) (cs : List ℕ) → get_or text 0 0 ≢ c → bytes_eq text (c ∷ cs) ≡ false
unlike text c cs n = tested (bytes_eq text (c ∷ cs)) (λ e. absurd (n (ap (λ (l : List ℕ). get_or l 0 0) ((bytes_eq-Decides text (c ∷ cs)).0 e)))) (λ e. e)

no_directive : (text : List ℕ) → get_or text 0 0 ≢ 64 → get_or text 0 0 ≢ 36 → word_token true text ≡ CharData text
no_directive text n m = rw (unlike text 64 [] n, unlike text 36 _ m, unlike text 36 _ m, unlike text 36 _ m) refl

first_is : (name part : List ℕ) → 97 ≤ get_or name 0 0 → (0 < length (name ++ part)) × (97 ≤ get_or (name ++ part) 0 0)
first_is [] part low = absurd (omega arith)
first_is (c ∷ cs) part low = (omega arith, low)

pub parameter_datum : (key : ℕ) (value : List ℕ) → key < 2 ^ 64 → AreOctets value → IsDatum (CharData (parameter_text key value))
parameter_datum key value small are =
    let part : List ℕ = value_part value (value_octets key value) in
    let first = first_is (key_name key) part (key_is key small).0 in
    let low = first.1 in (
      first.0,
      simple_run (key_name key) part (key_simple key small) (part_run key value are),
      no_directive (parameter_text key value) (omega (arith, low)) (omega (arith, low)),
    )
