-- The decimal text of a number is read as the number.
use Rattle.std.proofs.Common.{◌≡◌, ℕ, ◌+◌, ◌-◌, ◌*◌, ◌/◌, ◌%◌, ◌<◌, ◌≤◌, ◌^◌, Bool, true, false, List, [], ◌∷◌, ◌++◌, length, Option, Some, None, refl, ap, ◌∙◌, arith, length-append}
use Rattle.std.specs.Prelude.{nat_le, if◌then◌else◌}
use Rattle.std.specs.Fmt.{decimal}
use Rattle.std.specs.List.{AllByRecursion}
use Rattle.std.proofs.lemmas.Bool.Decides.{nat_tests}
use Rattle.std.proofs.lemmas.Fmt.{decimal_by_steps}
use Rattle.dns_wire.specs.codes.Decimal.{is_digit, digits_from, at_most, decimal_up_to}
use Rattle.dns_wire.specs.codes.Decimal as number

some_is : (m n : ℕ) → ◌≡◌ {A = Option ℕ} (Some m) (Some n) → m ≡ n
some_is m n e = cc

fits : (greatest n : ℕ) → n ≤ greatest → at_most greatest (Some n) ≡ Some n
fits greatest n le = by (nat_le n greatest) refl
  where
    by : (b : Bool) → nat_le n greatest ≡ b → (if b then Some n else None) ≡ Some n
    by true e = refl
    by false e = absurd (grind (arith, nat_tests))

digit : (r : ℕ) → r < 10 → is_digit (48 + r) ≡ true
digit r small = by (is_digit (48 + r)) refl
  where
    by : (b : Bool) → is_digit (48 + r) ≡ b → b ≡ true
    by true e = refl
    by false e = absurd (grind (arith, nat_tests))

one_digit : (m r : ℕ) → r < 10 → digits_from m ((48 + r) ∷ []) ≡ Some (10 * m + r)
one_digit m r small =
    ap (λ (b : Bool). if b then Some (10 * m + (48 + r - 48)) else None) (digit r small) ∙ ap (λ (n : ℕ). Some n) (omega arith)

digits_then : (k m : ℕ) (ds : List ℕ) (c : ℕ) → digits_from k ds ≡ Some m → digits_from k (ds ++ c ∷ []) ≡ digits_from m (c ∷ [])
digits_then k m [] c e = ap (λ (n : ℕ). digits_from n (c ∷ [])) (some_is k m e)
digits_then k m (d ∷ ds) c e = by (is_digit d) (λ f. digits_then (10 * k + (d - 48)) m ds c f) e
  where
    by : (b : Bool) → (digits_from (10 * k + (d - 48)) ds ≡ Some m → digits_from (10 * k + (d - 48)) (ds ++ c ∷ []) ≡ digits_from m (c ∷ []))
        → (if b then digits_from (10 * k + (d - 48)) ds else None) ≡ Some m
        → (if b then digits_from (10 * k + (d - 48)) (ds ++ c ∷ []) else None) ≡ digits_from m (c ∷ [])
    by true more f = more f
    by false more f = absurd (cc)

pub record Spelled (n : ℕ) (ds : List ℕ) : Type 0 where
  pub some : 0 < length ds
  pub digits : AllByRecursion (λ c. is_digit c ≡ true) ds
  pub value : digits_from 0 ds ≡ Some n

all_then : (P : ℕ → Type 0) (cs : List ℕ) (c : ℕ) → AllByRecursion P cs → P c → AllByRecursion P (cs ++ c ∷ [])
all_then P [] c all is = (is, tt)
all_then P (d ∷ cs) c all is = (all.0, all_then P cs c all.1 is)

pub spelled : (n : ℕ) → n < 2 ^ 64 → Spelled n (decimal n)
spelled = decimal_by_steps Spelled
    (λ n small. record { some = omega arith; digits = (digit n small, tt); value = one_digit 0 n small ∙ ap (λ (m : ℕ). Some m) (omega arith) })
    (λ n ds great s. record {
      some = omega (arith, length-append ds ((48 + n % 10) ∷ []));
      digits = all_then (λ c. is_digit c ≡ true) ds (48 + n % 10) s.digits (digit (n % 10) (omega arith));
      value = digits_then 0 (n / 10) ds (48 + n % 10) s.value ∙ one_digit (n / 10) (n % 10) (omega arith) ∙ ap (λ (m : ℕ). Some m) (omega arith);
    })

number_of : (n : ℕ) (ds : List ℕ) → Spelled n ds → number.decimal ds ≡ Some n
number_of n [] s = let some = s.some in absurd (omega arith)
number_of n (c ∷ cs) s = s.value

pub decimal_parses : (greatest n : ℕ) → n ≤ greatest → n < 2 ^ 64 → decimal_up_to greatest (decimal n) ≡ Some n
unfolding decimal_up_to
decimal_parses greatest n le small = ap (at_most greatest) (number_of n (decimal n) (spelled n small)) ∙ fits greatest n le
