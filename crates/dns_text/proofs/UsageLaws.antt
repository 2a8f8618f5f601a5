-- Zones of special-use names, whose labels are valid.
use Rattle.std.proofs.Common.{◌≡◌, ℕ, false, List, length, Ok, refl, arith}
use Rattle.std.specs.Prelude.{◌==◌, nat_lt}
use Rattle.std.proofs.lemmas.Bool.Decides.{nat_tests}
use Rattle.dns_wire.specs.Name.{IsLabel}
use Rattle.dns_names.specs.Label.{label_of_bytes}

pub label_made : (label : List ℕ) → IsLabel label → label_of_bytes label ≡ Ok label
label_made label is =
    let some : (length label == 0) ≡ false = let n = is.some in grind (arith, nat_tests) in
    let short : nat_lt 63 (length label) ≡ false = let n = is.most in grind (arith, nat_tests) in
    rw (some, short) refl
