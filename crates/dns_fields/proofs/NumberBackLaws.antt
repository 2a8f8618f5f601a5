-- The text of a number is read as the number.
use Rattle.std.proofs.Common.{◌≡◌, ℕ, suc, ◌+◌, ◌-◌, ◌*◌, ◌/◌, ◌%◌, ◌<◌, ◌≤◌, ◌^◌, Bool, true, false, List, [], ◌∷◌, ◌++◌, length, take, drop, get_or, Option, Some, option_map, refl, sym, ap, ◌∙◌, append_assoc, arith, length-append}
use Rattle.std.specs.Prelude.{◌==◌, nat_le, if◌then◌else◌}
use Rattle.std.specs.Fmt.{decimal}
use Rattle.std.specs.List.{AllByRecursion}
use Rattle.std.proofs.lemmas.Bool.Decides.{nat_tests}
use Rattle.dns_wire.specs.codes.Decimal.{is_digit, decimal_up_to}
use Rattle.dns_names.proofs.RoundTrip.{digit}
use Rattle.dns_fields.proofs.DecimalLaws.{Spelled, spelled, decimal_parses}
use Rattle.dns_fields.specs.location.Fixed.{dot, fraction, with_fraction, thousandths, is_unit, without_unit, centimeters}
use Rattle.dns_fields.specs.location.Text.{seconds_text, meters_text}

-- ---- the dot

unequal : (a b : ℕ) → b < a → (a == b) ≡ false
unequal a b lt = by (a == b) refl
  where
    by : (t : Bool) → (a == b) ≡ t → t ≡ false
    by true q = absurd (grind (arith, nat_tests))
    by false q = refl

no_dot : (c : ℕ) → is_digit c ≡ true → (c == 46) ≡ false
no_dot c e = let high = at_least c e in unequal c 46 (omega arith)
  where
    at_least : (k : ℕ) → is_digit k ≡ true → 48 ≤ k
    at_least k q = grind (arith, nat_tests)

dot_at : (ds rest : List ℕ) → AllByRecursion (λ c. is_digit c ≡ true) ds → dot (ds ++ 46 ∷ rest) ≡ length ds
dot_at [] rest are = refl
dot_at (d ∷ ds) rest are = let more = dot_at ds rest are.1 in rw (no_dot d are.0) (omega (arith, more))

take_front : (xs ys : List ℕ) → take (length xs) (xs ++ ys) ≡ xs
take_front [] ys = by ys
  where
    by : (zs : List ℕ) → take 0 zs ≡ []
    by [] = refl
    by (z ∷ zs) = refl
take_front (x ∷ xs) ys = ap (λ (l : List ℕ). x ∷ l) (take_front xs ys)

drop_past : (xs ys : List ℕ) → drop (length xs + 1) (xs ++ ys) ≡ drop 1 ys
drop_past [] ys = refl
drop_past (x ∷ xs) ys = let next : length (x ∷ xs) + 1 ≡ suc (length xs + 1) = omega arith in ap (λ (n : ℕ). drop n (x ∷ xs ++ ys)) next ∙ drop_past xs ys

fixed_back : (places greatest k part : ℕ) (rest : List ℕ) → k ≤ greatest → k < 2 ^ 64 → fraction places rest ≡ Some part → thousandths places greatest (decimal k ++ 46 ∷ rest) ≡ Some (1000 * k + part)
fixed_back places greatest k part rest le small e =
    let text : List ℕ = decimal k ++ 46 ∷ rest in
    let at : dot text ≡ length (decimal k) = dot_at (decimal k) rest (spelled k small).digits in
    let whole : decimal_up_to greatest (take (dot text) text) ≡ Some k =
    ap (λ (n : ℕ). decimal_up_to greatest (take n text)) at ∙ ap (decimal_up_to greatest) (take_front (decimal k) (46 ∷ rest)) ∙ decimal_parses greatest k le small in
    let after : fraction places (drop (dot text + 1) text) ≡ Some part = ap (λ (n : ℕ). fraction places (drop (n + 1) text)) at ∙ ap (fraction places) (drop_past (decimal k) (46 ∷ rest)) ∙ e in
    ap (λ (o : Option ℕ). with_fraction o (fraction places (drop (dot text + 1) text))) whole ∙ ap (with_fraction (Some k)) after

-- ---- digits after the dot

three_back : (x y z n : ℕ) → x < 10 → y < 10 → z < 10 → 10 * (10 * (10 * 0 + (48 + x - 48)) + (48 + y - 48)) + (48 + z - 48) ≡ n → decimal_up_to 999 ((48 + x) ∷ (48 + y) ∷ (48 + z) ∷ []) ≡ Some n
unfolding decimal_up_to
three_back x y z n p q r e =
    let few : n ≤ 999 = omega (arith, e) in
    let fits : nat_le n 999 ≡ true = grind (arith, nat_tests) in
    rw (digit x (omega arith), digit y (omega arith), digit z (omega arith), e, fits) refl

seconds_digits : (n : ℕ) → fraction 3 ((48 + n / 100 % 10) ∷ (48 + n / 10 % 10) ∷ (48 + n % 10) ∷ []) ≡ Some (n % 1000)
seconds_digits n = three_back (n / 100 % 10) (n / 10 % 10) (n % 10) (n % 1000) (omega arith) (omega arith) (omega arith) (omega arith)

meters_digits : (n : ℕ) → fraction 2 ((48 + n / 10 % 10) ∷ (48 + n % 10) ∷ []) ≡ Some (10 * (n % 100))
meters_digits n = three_back (n / 10 % 10) (n % 10) 0 (10 * (n % 100)) (omega arith) (omega arith) (omega arith) (omega arith)

pub seconds_back : (n : ℕ) → n < 60000 → thousandths 3 59 (seconds_text n) ≡ Some n
seconds_back n small =
    fixed_back 3 59 (n / 1000) (n % 1000) ((48 + n / 100 % 10) ∷ (48 + n / 10 % 10) ∷ (48 + n % 10) ∷ []) (omega arith) (omega arith) (seconds_digits n)
    ∙ ap (λ (k : ℕ). Some k) (omega arith)

-- ---- meters

last_at : (xs : List ℕ) (c : ℕ) → get_or (xs ++ c ∷ []) (length xs) 0 ≡ c
last_at [] c = refl
last_at (x ∷ xs) c = last_at xs c

no_unit : (xs : List ℕ) → without_unit (xs ++ 109 ∷ []) ≡ xs
no_unit xs =
    let text : List ℕ = xs ++ 109 ∷ [] in
    let len : length text - 1 ≡ length xs = omega (arith, length-append xs (109 ∷ [])) in
    let last : get_or text (length text - 1) 0 ≡ 109 = ap (λ (n : ℕ). get_or text n 0) len ∙ last_at xs 109 in
    ap (λ (c : ℕ). if is_unit c then take (length text - 1) text else text) last ∙ ap (λ (n : ℕ). take n text) len ∙ take_front xs (109 ∷ [])

pub meters_back : (greatest n : ℕ) → n / 100 ≤ greatest → n < 2 ^ 64 → centimeters greatest (meters_text n) ≡ Some n
meters_back greatest n le small =
    let digits : List ℕ = (48 + n / 10 % 10) ∷ (48 + n % 10) ∷ [] in
    let text : meters_text n ≡ (decimal (n / 100) ++ 46 ∷ digits) ++ 109 ∷ [] = sym (append_assoc (decimal (n / 100)) (46 ∷ digits) (109 ∷ [])) in
    ap (λ (l : List ℕ). option_map (λ (k : ℕ). k / 10) (thousandths 2 greatest l)) (ap without_unit text ∙ no_unit (decimal (n / 100) ++ 46 ∷ digits))
    ∙ ap (option_map (λ (k : ℕ). k / 10)) (fixed_back 2 greatest (n / 100) (10 * (n % 100)) digits le (omega arith) (meters_digits n))
    ∙ ap (λ (k : ℕ). Some k) (omega arith)

-- ---- the first character

pub first_digit : (n : ℕ) (rest : List ℕ) → n < 2 ^ 64 → is_digit (get_or (decimal n ++ rest) 0 0) ≡ true
first_digit n rest small = by (decimal n) (spelled n small)
  where
    by : (ds : List ℕ) → Spelled n ds → is_digit (get_or (ds ++ rest) 0 0) ≡ true
    by [] s = let some = s.some in absurd (omega arith)
    by (d ∷ ds) s = s.digits.0
