use Rattle.stub_net.proofs.SignedTimeLaws.{signed-clock, signed-timed}
use Rattle.stub_net.proofs.signed.laws.signed_networks_are_timed.Goals as goal

pub returns : goal.returns
returns g c = record {
  clock = λ clock k. signed-clock _ clock k;
  timed = λ clock slack k. signed-timed _ clock slack k;
}
