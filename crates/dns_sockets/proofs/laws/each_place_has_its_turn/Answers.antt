use Rattle.dns_sockets.proofs.RotationLaws.{has_its_turn}
use Rattle.dns_sockets.proofs.RotationWitness.{has_turn}
use Rattle.dns_sockets.proofs.laws.each_place_has_its_turn.Goals as goal

pub returns : goal.returns
returns c = λ first place most counts within all enough. has_its_turn first place most counts within all enough
