-- A table that has a third place from its second turn on: the place 0 has its turn after the two others.
use Rattle.std.proofs.Common.{◌≡◌, [], ◌∷◌, arith, refl}
use Rattle.std.specs.List.{Contains}
use Rattle.dns_sockets.specs.Rotation.{places_of}
use Rattle.dns_sockets.proofs.RotationLaws.{has_its_turn}

pub has_turn : Contains (places_of 1 (2 ∷ 3 ∷ 3 ∷ [])) 0
has_turn = has_its_turn 1 0 3 (2 ∷ 3 ∷ 3 ∷ []) (omega arith) ((omega arith, omega arith), ((omega arith, omega arith), ((omega arith, omega arith), tt))) (omega arith)

pub turns_are : places_of 1 (2 ∷ 3 ∷ 3 ∷ []) ≡ 1 ∷ 2 ∷ 0 ∷ []
turns_are = refl
