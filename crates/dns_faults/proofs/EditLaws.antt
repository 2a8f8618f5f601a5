-- What the edits of a reply change.
use Rattle.std.proofs.Common.{◌≡◌, ◌<◌, ◌+◌, ◌*◌, ◌/◌, ◌%◌, ℕ, List, ◌∷◌, suc, true, length, arith}
use Rattle.std.specs.Prelude.{nat_le}
use Rattle.std.proofs.lemmas.Bool.Decides.{nat_tests}
use Rattle.dns_faults.specs.rules.Edits.{with_next_number, with_wrong_id}
use Rattle.dns_faults.proofs.TableLaws.{cond-true}

-- a number of two bytes is not the next one
pub next-differs : (high low : ℕ) → high < 256 → low < 256 → ((256 * high + low + 1) % 65536) / 256 ≡ high
    → ((256 * high + low + 1) % 65536) % 256 ≡ low → ⊥
next-differs high low h l e f = omega (arith, h, l, e, f)

pub two-at-least : (n : ℕ) → nat_le 2 (suc (suc n)) ≡ true
two-at-least n = grind (arith, nat_tests)

-- two bytes have an id
pub wrong-id-is : (high low : ℕ) (bytes : List ℕ) → with_wrong_id (high ∷ low ∷ bytes) ≡ with_next_number 0 (high ∷ low ∷ bytes)
wrong-id-is high low bytes = cond-true (nat_le 2 (length (high ∷ low ∷ bytes))) _ _ (two-at-least (length bytes))
