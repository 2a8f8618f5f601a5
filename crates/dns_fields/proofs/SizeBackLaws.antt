-- The text of a size or an altitude is read as its octet or its number.
use Rattle.std.proofs.Common.{◌≡◌, ℕ, zero, suc, ◌+◌, ◌-◌, ◌/◌, ◌<◌, ◌≤◌, Bool, true, false, ◌&&◌, List, ◌∷◌, drop, get_or, Some, None, refl, sym, ap, ◌∙◌, arith}
use Rattle.std.specs.Prelude.{◌==◌, ◌||◌, not, nat_le, nat_lt, if◌then◌else◌}
use Rattle.std.proofs.lemmas.Bool.Decides.{nat_tests}
use Rattle.dns_wire.specs.codes.Decimal.{is_digit}
use Rattle.dns_fields.specs.location.Fixed.{centimeters}
use Rattle.dns_fields.specs.location.Size.{size_octet, octet_up_to, size_of, is_size, octet_centimeters}
use Rattle.dns_fields.specs.location.Location.{below, above, altitude_of}
use Rattle.dns_fields.specs.location.Text.{meters_text, altitude_text}
use Rattle.dns_fields.proofs.NumberBackLaws.{meters_back, first_digit}

-- ---- sizes

-- an octet of a size has a text of at most the greatest size, and is the octet of that
abbrev is_back : ℕ → Bool
is_back octet = not (is_size octet) || (nat_le (octet_centimeters octet) 9000000000 && size_octet (octet_centimeters octet) == octet)

abbrev are_back : ℕ → Bool
are_back zero = true
are_back (suc n) = is_back n && are_back n

all_back : are_back 256 ≡ true
all_back = refl

first_of : (a b : Bool) → (a && b) ≡ true → a ≡ true
first_of true b e = refl
first_of false b e = e

second_of : (a b : Bool) → (a && b) ≡ true → b ≡ true
second_of true b e = e
second_of false b e = absurd (cc)

back_at : (n octet : ℕ) → octet < n → are_back n ≡ true → is_back octet ≡ true
back_at zero octet small e = absurd (omega arith)
back_at (suc n) octet small e = by (octet == n) refl (λ lt. back_at n octet lt (second_of (is_back n) (are_back n) e))
  where
    same : (octet == n) ≡ true → n ≡ octet
    same q = grind (arith, nat_tests)

    other : (octet == n) ≡ false → octet < n
    other q = grind (arith, nat_tests)

    by : (t : Bool) → (octet == n) ≡ t → (octet < n → is_back octet ≡ true) → is_back octet ≡ true
    by true q lower = ap is_back (sym (same q)) ∙ first_of (is_back n) (are_back n) e
    by false q lower = lower (other q)

at_most : (a b : ℕ) → nat_le a b ≡ true → a ≤ b
at_most a b q = grind (arith, nat_tests)

equal : (a b : ℕ) → (a == b) ≡ true → a ≡ b
equal a b q = grind (arith, nat_tests)

implied : (a b : Bool) → (not a || b) ≡ true → a ≡ true → b ≡ true
implied true b e q = e
implied false b e q = absurd (cc)

not_above : (a b : ℕ) → b ≤ a → nat_lt a b ≡ false
not_above a b le = grind (arith, nat_tests)

pub size_small : (octet : ℕ) → octet < 256 → is_size octet ≡ true → octet_centimeters octet ≤ 9000000000
size_small octet small e =
    at_most (octet_centimeters octet) 9000000000 (first_of (nat_le (octet_centimeters octet) 9000000000) _ (implied (is_size octet) _ (back_at 256 octet small all_back) e))

pub size_back : (octet : ℕ) → octet < 256 → is_size octet ≡ true → size_of (meters_text (octet_centimeters octet)) ≡ Some octet
size_back octet small e =
    let n : ℕ = octet_centimeters octet in
    let back = implied (is_size octet) _ (back_at 256 octet small all_back) e in
    let le = at_most n 9000000000 (first_of (nat_le n 9000000000) _ back) in
    ap octet_up_to (meters_back 90000000 n (omega arith) (omega arith))
    ∙ ap (λ (t : Bool). if t then None else Some (size_octet n)) (not_above 9000000000 n le)
    ∙ ap (λ (k : ℕ). Some k) (equal (size_octet n) octet (second_of (nat_le n 9000000000) _ back))

-- ---- altitudes

not_dash : (c : ℕ) → is_digit c ≡ true → (c == 45) ≡ false
not_dash c e = by (c == 45) refl
  where
    same : (c == 45) ≡ true → c ≡ 45
    same q = grind (arith, nat_tests)

    by : (t : Bool) → (c == 45) ≡ t → t ≡ false
    by true q = let no : is_digit 45 ≡ true = ap is_digit (sym (same q)) ∙ e in absurd (cc)
    by false q = refl

above_back : (n : ℕ) → n ≤ 4284967295 → altitude_of (meters_text n) ≡ Some (10000000 + n)
above_back n le =
    let text : List ℕ = meters_text n in
    ap (λ (t : Bool). if t then below (centimeters 100000 (drop 1 text)) else above (centimeters 42849672 text)) (not_dash (get_or text 0 0) (first_digit (n / 100) _ (omega arith)))
    ∙ ap above (meters_back 42849672 n (omega arith) (omega arith))
    ∙ ap (λ (t : Bool). if t then None else Some (10000000 + n)) (not_above 4284967295 n le)

below_back : (n : ℕ) → n ≤ 10000000 → altitude_of (45 ∷ meters_text n) ≡ Some (10000000 - n)
below_back n le = ap below (meters_back 100000 n (omega arith) (omega arith)) ∙ ap (λ (t : Bool). if t then None else Some (10000000 - n)) (not_above 10000000 n le)

pub altitude_back : (value : ℕ) → value < 4294967296 → altitude_of (altitude_text value) ≡ Some value
altitude_back value small = by (nat_lt value 10000000) refl
  where
    low : nat_lt value 10000000 ≡ true → value < 10000000
    low q = grind (arith, nat_tests)

    high : nat_lt value 10000000 ≡ false → 10000000 ≤ value
    high q = grind (arith, nat_tests)

    by : (t : Bool) → nat_lt value 10000000 ≡ t → altitude_of (if t then 45 ∷ meters_text (10000000 - value) else meters_text (value - 10000000)) ≡ Some value
    by true q = let less = low q in below_back (10000000 - value) (omega arith) ∙ ap (λ (k : ℕ). Some k) (omega arith)
    by false q = let more = high q in above_back (value - 10000000) (omega arith) ∙ ap (λ (k : ℕ). Some k) (omega arith)
