-- The name of a key is read as the key.
use Rattle.std.proofs.Common.{◌≡◌, ℕ, zero, suc, ◌+◌, ◌%◌, ◌<◌, ◌^◌, Bool, true, false, ◌&&◌, List, [], ◌∷◌, ◌++◌, length, get_or, Option, Some, None, refl, sym, ap, ◌∙◌, arith, length-append}
use Rattle.std.specs.Prelude.{◌==◌, not, nat_lt, codes, if◌then◌else◌}
use Rattle.std.specs.Fmt.{decimal}
use Rattle.std.specs.Str.{bytes_eq}
use Rattle.std.proofs.lemmas.Bool.Decides.{nat_tests}
use Rattle.std.proofs.lemmas.Fmt.{decimal_by_steps}
use Rattle.std.proofs.lemmas.List.{get_or_append_left}
use Rattle.std.proofs.lemmas.Slice.Eq.{bytes_eq-Decides}
use Rattle.dns_wire.specs.codes.Decimal.{decimal_up_to}
use Rattle.dns_fields.specs.service.Key.{key_among, keys, has_leading_zero, is_numbered, numbered_key, or_numbered, key_of}
use Rattle.dns_fields.specs.service.Text.{name_among, name_or_number, key_name}
use Rattle.dns_fields.proofs.DecimalLaws.{decimal_parses}
use Rattle.dns_fields.proofs.LoopLaws.{first_of, second_of}

equal : (a b : ℕ) → (a == b) ≡ true → a ≡ b
equal a b q = grind (arith, nat_tests)

above : (a b : ℕ) → b < a → (a == b) ≡ false
above a b lt = by (a == b) refl
  where
    by : (t : Bool) → (a == b) ≡ t → t ≡ false
    by true q = absurd (grind (arith, nat_tests))
    by false q = refl

name_is : (a b : List ℕ) → ◌≡◌ {A = Option (List ℕ)} (Some a) (Some b) → a ≡ b
name_is a b e = cc

-- ---- names

abbrev has_number : ℕ → Option ℕ → Bool
has_number number None = false
has_number number (Some other) = other == number

number_of : (n : ℕ) (o : Option ℕ) → has_number n o ≡ true → o ≡ Some n
number_of n None e = absurd (cc)
number_of n (Some m) e = ap (λ (k : ℕ). Some k) (equal m n e)

-- names that do not begin with `key`, and have their numbers in a table
abbrev are_named : List (List ℕ × ℕ) → List (List ℕ × ℕ) → Bool
are_named table [] = true
are_named table (line ∷ lines) = (has_number line.1 (key_among table line.0) && not (is_numbered line.0)) && are_named table lines

named : are_named keys keys ≡ true
named = refl

not_true : (b : Bool) → not b ≡ true → b ≡ false
not_true true e = absurd (cc)
not_true false e = refl

name_back : (table lines : List (List ℕ × ℕ)) (key : ℕ) (name : List ℕ) → are_named table lines ≡ true → name_among lines key ≡ Some name
    → (key_among table name ≡ Some key) × (is_numbered name ≡ false)
name_back table [] key name e q = absurd (cc)
name_back table (line ∷ lines) key name e q =
    by (line.1 == key) refl q (λ r. name_back table lines key name (second_of (has_number line.1 (key_among table line.0) && not (is_numbered line.0)) (are_named table lines) e) r)
  where
    here : (has_number line.1 (key_among table line.0) && not (is_numbered line.0)) ≡ true
    here = first_of (has_number line.1 (key_among table line.0) && not (is_numbered line.0)) (are_named table lines) e

    by : (b : Bool) → (line.1 == key) ≡ b → (if b then Some line.0 else name_among lines key) ≡ Some name
        → (name_among lines key ≡ Some name → (key_among table name ≡ Some key) × (is_numbered name ≡ false))
        → (key_among table name ≡ Some key) × (is_numbered name ≡ false)
    by true r q rest =
        let same : line.0 ≡ name = name_is line.0 name q in (
          ap (key_among table) (sym same) ∙ number_of line.1 (key_among table line.0) (first_of (has_number line.1 (key_among table line.0)) (not (is_numbered line.0)) here) ∙ ap (λ (k : ℕ). Some k) (equal line.1 key r),
          ap is_numbered (sym same) ∙ not_true (is_numbered line.0) (second_of (has_number line.1 (key_among table line.0)) (not (is_numbered line.0)) here),
        )
    by false r q rest = rest q

differs : (text name : List ℕ) → is_numbered text ≡ true → is_numbered name ≡ false → bytes_eq text name ≡ false
differs text name is other = by (bytes_eq text name) refl
  where
    by : (b : Bool) → bytes_eq text name ≡ b → b ≡ false
    by true e = let no : is_numbered name ≡ true = ap is_numbered (sym ((bytes_eq-Decides text name).0 e)) ∙ is in absurd (cc)
    by false e = refl

-- a text that begins with `key` is no name
none_among : (table lines : List (List ℕ × ℕ)) (text : List ℕ) → are_named table lines ≡ true → is_numbered text ≡ true → key_among lines text ≡ None
none_among table [] text e is = refl
none_among table (line ∷ lines) text e is =
    let here = first_of (has_number line.1 (key_among table line.0) && not (is_numbered line.0)) (are_named table lines) e in
    let other = not_true (is_numbered line.0) (second_of (has_number line.1 (key_among table line.0)) (not (is_numbered line.0)) here) in
    ap (λ (b : Bool). if b then Some line.1 else key_among lines text) (differs text line.0 is other)
    ∙ none_among table lines text (second_of (has_number line.1 (key_among table line.0) && not (is_numbered line.0)) (are_named table lines) e) is

-- ---- numbers

no_zero : (n len first : ℕ) → (0 < n → 48 < first) → (n ≡ 0 → len ≡ 1) → (nat_lt 1 len && first == 48) ≡ false
no_zero zero len first more one = ap (λ (k : ℕ). nat_lt 1 k && first == 48) (one refl)
no_zero (suc n) len first more one =
    let big : 48 < first = more (omega arith) in ap (λ (b : Bool). nat_lt 1 len && b) (above first 48 big) ∙ none (nat_lt 1 len)
  where
    none : (b : Bool) → (b && false) ≡ false
    none true = refl
    none false = refl

abbrev IsFirst : ℕ → List ℕ → Type 0
IsFirst n ds = (0 < length ds) × (0 < n → 48 < get_or ds 0 0) × (n ≡ 0 → length ds ≡ 1)

first_digit : (n : ℕ) → n < 2 ^ 64 → IsFirst n (decimal n)
first_digit = decimal_by_steps IsFirst (λ n small. (omega arith, λ some. omega arith, λ only. refl))
    (λ n ds great is. (
      omega (arith, length-append ds ((48 + n % 10) ∷ [])),
      λ some. let big = is.1 (omega arith) in omega (arith, get_or_append_left ds ((48 + n % 10) ∷ []) 0 0 is.0, big),
      λ only. absurd (omega arith),
    ))

pub no_leading_zero : (n : ℕ) → n < 2 ^ 64 → has_leading_zero (decimal n) ≡ false
no_leading_zero n small = let is = first_digit n small in no_zero n (length (decimal n)) (get_or (decimal n) 0 0) is.1 is.2

pub key_back : (key : ℕ) → key < 65536 → key_of (key_name key) ≡ Some key
key_back key small = by (name_among keys key) refl
  where
    number : numbered_key (codes "key" ++ decimal key) ≡ Some key
    number = ap (λ (b : Bool). if not b then decimal_up_to 65535 (decimal key) else None) (no_leading_zero key (omega arith)) ∙ decimal_parses 65535 key (omega arith) (omega arith)

    by : (o : Option (List ℕ)) → name_among keys key ≡ o → key_of (name_or_number o key) ≡ Some key
    by None q = ap (λ (o : Option ℕ). or_numbered o (codes "key" ++ decimal key)) (none_among keys keys (codes "key" ++ decimal key) named refl) ∙ number
    by (Some name) q = ap (λ (o : Option ℕ). or_numbered o name) (name_back keys keys key name named q).0

-- a key without a name is written by its number, and another is not
pub name_numbered : (key : ℕ) → (name_among keys key ≡ None → is_numbered (key_name key) ≡ true) × ((name : List ℕ) → name_among keys key ≡ Some name → is_numbered (key_name key) ≡ false)
name_numbered key = (
  λ q. ap (λ (o : Option (List ℕ)). is_numbered (name_or_number o key)) q,
  λ name q. ap (λ (o : Option (List ℕ)). is_numbered (name_or_number o key)) q ∙ (name_back keys keys key name named q).1,
)
