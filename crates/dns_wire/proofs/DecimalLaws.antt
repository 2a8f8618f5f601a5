-- Numbers in text.
use Rattle.std.proofs.Common.{◌≡◌, ℕ, ◌+◌, ◌-◌, ◌*◌, ◌<◌, Bool, true, false, cond, get_or, drop, drop-cons, length, suc, List, [], ◌∷◌, Some, None, refl, ap, arith}
use Rattle.std.specs.Prelude.{nat_le}
use Rattle.std.proofs.lemmas.Bool.Decides.{nat_tests}
use Rattle.std.proofs.lemmas.Bool.{leb-false}
use Rattle.dns_wire.specs.codes.Decimal.{is_digit, digits_from, at_most}

too_great : (greatest number : ℕ) → greatest < number → at_most greatest (Some number) ≡ None
too_great greatest number lt = at (nat_le number greatest) refl
  where
    at : (r : Bool) → nat_le number greatest ≡ r → cond r (Some number) None ≡ None
    at true e = absurd (grind (arith, nat_tests))
    at false e = refl

-- past the greatest that is taken there is no way back
pub past-greatest : (greatest number : ℕ) (cs : List ℕ) → greatest < number → at_most greatest (digits_from number cs) ≡ None
past-greatest greatest number [] lt = too_great greatest number lt
past-greatest greatest number (c ∷ cs) lt =
    at (is_digit c) (past-greatest greatest (10 * number + (c - 48)) cs (omega arith))
  where
    at : (d : Bool) → at_most greatest (digits_from (10 * number + (c - 48)) cs) ≡ None → at_most greatest (cond d (digits_from (10 * number + (c - 48)) cs) None) ≡ None
    at true e = e
    at false e = refl

-- where a digit is refused, what goes on with it is
pub refused-on : (greatest number c : ℕ) (cs : List ℕ) → at_most greatest (digits_from number (c ∷ [])) ≡ None → at_most greatest (digits_from number (c ∷ cs)) ≡ None
refused-on greatest number c cs none = digit (is_digit c) none
  where
    size : (r : Bool) → nat_le (10 * number + (c - 48)) greatest ≡ r → cond r (Some (10 * number + (c - 48))) None ≡ None → at_most greatest (digits_from (10 * number + (c - 48)) cs) ≡ None
    size true e n = absurd (cc)
    size false e n = past-greatest greatest (10 * number + (c - 48)) cs (leb-false _ _ e)

    digit : (d : Bool) → at_most greatest (cond d (Some (10 * number + (c - 48))) None) ≡ None → at_most greatest (cond d (digits_from (10 * number + (c - 48)) cs) None) ≡ None
    digit true n = size (nat_le (10 * number + (c - 48)) greatest) refl n
    digit false n = refl

pub refused-at : (greatest number i : ℕ) (text : List ℕ) → i < length text → at_most greatest (digits_from number (get_or text i 0 ∷ [])) ≡ None → at_most greatest (digits_from number (drop i text)) ≡ None
refused-at greatest number i text lt none = rw (drop-cons text i 0) (refused-on greatest number (get_or text i 0) (drop (suc i) text) none)

-- and where it is taken, the rest goes on from there
pub taken-on : (greatest number next c : ℕ) (cs : List ℕ) → at_most greatest (digits_from number (c ∷ [])) ≡ Some next → digits_from number (c ∷ cs) ≡ digits_from next cs
taken-on greatest number next c cs some = digit (is_digit c) some
  where
    size : (r : Bool) → cond r (Some (10 * number + (c - 48))) None ≡ Some next → digits_from (10 * number + (c - 48)) cs ≡ digits_from next cs
    size true e = let same : 10 * number + (c - 48) ≡ next = cc in ap (λ (n : ℕ). digits_from n cs) same
    size false e = absurd (cc)

    digit : (d : Bool) → at_most greatest (cond d (Some (10 * number + (c - 48))) None) ≡ Some next → cond d (digits_from (10 * number + (c - 48)) cs) None ≡ digits_from next cs
    digit true e = size (nat_le (10 * number + (c - 48)) greatest) e
    digit false e = absurd (cc)
