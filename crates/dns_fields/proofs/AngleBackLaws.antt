-- The words of an angle are read as the angle.
use Rattle.std.proofs.Common.{◌≡◌, ℕ, ◌+◌, ◌-◌, ◌*◌, ◌/◌, ◌%◌, ◌<◌, ◌≤◌, ◌^◌, Bool, true, false, ◌&&◌, List, [], ◌∷◌, ◌++◌, Option, Some, None, option_map, refl, sym, ap, ◌∙◌, arith}
use Rattle.std.specs.Prelude.{◌==◌, nat_le, nat_lt, if◌then◌else◌}
use Rattle.std.specs.Fmt.{decimal}
use Rattle.std.specs.List.{AllByRecursion}
use Rattle.std.proofs.lemmas.Bool.Decides.{nat_tests}
use Rattle.dns_wire.specs.codes.Decimal.{is_digit}
use Rattle.dns_fields.proofs.DecimalLaws.{spelled, decimal_parses}
use Rattle.dns_text.specs.Lexer.{Lexeme}
use Rattle.dns_fields.specs.location.Angle.{greatest, word_at, degrees, minutes, seconds, letter, direction, placed, after_seconds, after_minutes, after_degrees, angle}
use Rattle.dns_fields.specs.location.Wire.{is_angle}
use Rattle.dns_fields.specs.location.Text.{distance, letter_of, seconds_text}
use Rattle.dns_fields.specs.declared.location.angle.Axis.{Axis}
use Rattle.dns_fields.specs.declared.location.angle.Axis.TheVariants.{Latitude, Longitude}
use Rattle.dns_fields.proofs.NumberBackLaws.{seconds_back}

-- ---- directions

unequal : (c k : ℕ) → is_digit c ≡ true → is_digit k ≡ false → (c == k) ≡ false
unequal c k e f = by (c == k) refl
  where
    same : (c == k) ≡ true → c ≡ k
    same q = grind (arith, nat_tests)

    by : (t : Bool) → (c == k) ≡ t → t ≡ false
    by true q = let no : is_digit k ≡ true = ap is_digit (sym (same q)) ∙ e in absurd (cc)
    by false q = refl

no_letter : (axis : Axis) (c : ℕ) → is_digit c ≡ true → letter axis c ≡ None
no_letter Latitude c e = rw (unequal c 78 e refl, unequal c 110 e refl, unequal c 83 e refl, unequal c 115 e refl) refl
no_letter Longitude c e = rw (unequal c 69 e refl, unequal c 101 e refl, unequal c 87 e refl, unequal c 119 e refl) refl

no_direction : (axis : Axis) (ds : List ℕ) → AllByRecursion (λ c. is_digit c ≡ true) ds → direction axis (Some ds) ≡ None
no_direction axis [] are = refl
no_direction axis (c ∷ []) are = no_letter axis c are.0
no_direction axis (c ∷ d ∷ ds) are = refl

number_direction : (axis : Axis) (n : ℕ) → n < 2 ^ 64 → direction axis (Some (decimal n)) ≡ None
number_direction axis n small = no_direction axis (decimal n) (spelled n small).digits

long_direction : (axis : Axis) (ds : List ℕ) (a b : ℕ) (rest : List ℕ) → direction axis (Some (ds ++ a ∷ b ∷ rest)) ≡ None
long_direction axis [] a b rest = refl
long_direction axis (c ∷ []) a b rest = refl
long_direction axis (c ∷ d ∷ ds) a b rest = refl

seconds_direction : (axis : Axis) (n : ℕ) → direction axis (Some (seconds_text n)) ≡ None
seconds_direction axis n = long_direction axis (decimal (n / 1000)) 46 (48 + n / 100 % 10) ((48 + n / 10 % 10) ∷ (48 + n % 10) ∷ [])

letter_back : (axis : Axis) (is_negative : Bool) → direction axis (Some (letter_of axis is_negative ∷ [])) ≡ Some (if is_negative then false else true)
letter_back Latitude true = refl
letter_back Latitude false = refl
letter_back Longitude true = refl
letter_back Longitude false = refl

-- ---- an angle

second_of : (a b : Bool) → (a && b) ≡ true → b ≡ true
second_of true b e = e
second_of false b e = absurd (cc)

first_of : (a b : Bool) → (a && b) ≡ true → a ≡ true
first_of true b e = refl
first_of false b e = e

at_most : (a b : ℕ) → nat_le a b ≡ true → a ≤ b
at_most a b q = grind (arith, nat_tests)

pub near : (axis : Axis) (value : ℕ) → is_angle axis value ≡ true → distance value ≤ 3600000 * greatest axis
near axis value e = by (nat_lt value 2147483648) refl
  where
    high : value ≤ 2147483648 + 3600000 * greatest axis
    high = at_most _ _ (first_of (nat_le value (2147483648 + 3600000 * greatest axis)) _ e)

    low : 2147483648 ≤ value + 3600000 * greatest axis
    low = at_most _ _ (second_of (nat_le value (2147483648 + 3600000 * greatest axis)) _ e)

    by : (t : Bool) → nat_lt value 2147483648 ≡ t → (if t then 2147483648 - value else value - 2147483648) ≤ 3600000 * greatest axis
    by true q = omega (arith, low)
    by false q = omega (arith, high)

value_back : (value next : ℕ) (is_negative : Bool) → nat_lt value 2147483648 ≡ is_negative
    → ((if (if is_negative then false else true) then 2147483648 + (if is_negative then 2147483648 - value else value - 2147483648) else 2147483648 - (if is_negative then 2147483648 - value else value - 2147483648)) ≡ value)
value_back value next true q = let less : value < 2147483648 = grind (arith, nat_tests) in omega arith
value_back value next false q = let more : 2147483648 ≤ value = grind (arith, nat_tests) in omega arith

placed_back : (axis : Axis) (value next : ℕ) → is_angle axis value ≡ true → placed axis (if nat_lt value 2147483648 then false else true) (distance value) next ≡ Some (value, next)
placed_back axis value next e =
    let le = near axis value e in
    let fits : nat_lt (3600000 * greatest axis) (distance value) ≡ false = within (3600000 * greatest axis) (distance value) le in
    let is_positive : Bool = if nat_lt value 2147483648 then false else true in
    ap (λ (t : Bool). if t then None else Some ((if is_positive then 2147483648 + distance value else 2147483648 - distance value), next)) fits
    ∙ ap (λ (n : ℕ). Some (n, next)) (value_back value next (nat_lt value 2147483648) refl)
  where
    within : (a b : ℕ) → b ≤ a → nat_lt a b ≡ false
    within a b le = grind (arith, nat_tests)

most : (axis : Axis) → greatest axis ≤ 180
most Latitude = omega arith
most Longitude = omega arith

pub angle_back : (axis : Axis) (place value : ℕ) (tokens : List Lexeme) → is_angle axis value ≡ true
    → word_at place tokens ≡ Some (decimal (distance value / 3600000)) → word_at (place + 1) tokens ≡ Some (decimal (distance value % 3600000 / 60000))
    → word_at (place + 2) tokens ≡ Some (seconds_text (distance value % 60000)) → word_at (place + 3) tokens ≡ Some (letter_of axis (nat_lt value 2147483648) ∷ [])
    → angle axis place tokens ≡ Some (value, place + 4)
angle_back axis place value tokens e w0 w1 w2 w3 =
    let n : ℕ = distance value in
    let le = near axis value e in
    let few = most axis in
    let d : ℕ = n / 3600000 in
    let m : ℕ = n % 3600000 / 60000 in
    let s : ℕ = n % 60000 in
    let is_positive : Bool = if nat_lt value 2147483648 then false else true in
    let a0 : degrees axis (word_at place tokens) ≡ Some (3600000 * d) =
    ap (degrees axis) w0 ∙ ap (option_map (λ (k : ℕ). 3600000 * k)) (decimal_parses (greatest axis) d (omega arith) (omega arith)) in
    let a1 : direction axis (word_at (place + 1) tokens) ≡ None = ap (direction axis) w1 ∙ number_direction axis m (omega arith) in
    let a2 : minutes (word_at (place + 1) tokens) ≡ Some (60000 * m) = ap minutes w1 ∙ ap (option_map (λ (k : ℕ). 60000 * k)) (decimal_parses 59 m (omega arith) (omega arith)) in
    let a3 : direction axis (word_at (place + 2) tokens) ≡ None = ap (direction axis) w2 ∙ seconds_direction axis s in
    let a4 : seconds (word_at (place + 2) tokens) ≡ Some s = ap seconds w2 ∙ seconds_back s (omega arith) in
    let a5 : direction axis (word_at (place + 3) tokens) ≡ Some is_positive = ap (direction axis) w3 ∙ letter_back axis (nat_lt value 2147483648) in
    let total : 3600000 * d + 60000 * m + s ≡ n = omega arith in
    ap (λ (o : Option ℕ). elim o as (λ _. Option (ℕ × ℕ)) [
      | None ↦ None
      | Some k ↦ elim (direction axis (word_at (place + 1) tokens)) as (λ _. Option (ℕ × ℕ)) [ None ↦ after_degrees axis place tokens k | Some positive ↦ placed axis positive k (place + 2) ]
    ]) a0
    ∙ ap (λ (o : Option Bool). elim o as (λ _. Option (ℕ × ℕ)) [ None ↦ after_degrees axis place tokens (3600000 * d) | Some positive ↦ placed axis positive (3600000 * d) (place + 2) ]) a1
    ∙ ap (λ (o : Option ℕ). elim o as (λ _. Option (ℕ × ℕ)) [
      | None ↦ None
      | Some k ↦ elim (direction axis (word_at (place + 2) tokens)) as (λ _. Option (ℕ × ℕ)) [ None ↦ after_minutes axis place tokens (3600000 * d + k) | Some positive ↦ placed axis positive (3600000 * d + k) (place + 3) ]
    ]) a2
    ∙ ap (λ (o : Option Bool). elim o as (λ _. Option (ℕ × ℕ)) [ None ↦ after_minutes axis place tokens (3600000 * d + 60000 * m) | Some positive ↦ placed axis positive (3600000 * d + 60000 * m) (place + 3) ]) a3
    ∙ ap (λ (o : Option ℕ). elim o as (λ _. Option (ℕ × ℕ)) [ None ↦ None | Some k ↦ after_seconds axis place tokens (3600000 * d + 60000 * m + k) (direction axis (word_at (place + 3) tokens)) ]) a4
    ∙ ap (after_seconds axis place tokens (3600000 * d + 60000 * m + s)) a5
    ∙ ap (λ (k : ℕ). placed axis is_positive k (place + 4)) total
    ∙ placed_back axis value (place + 4) e
