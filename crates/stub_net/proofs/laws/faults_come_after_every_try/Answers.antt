use Rattle.stub_net.proofs.FaultLaws.{declined-by-all}
use Rattle.stub_net.proofs.laws.faults_come_after_every_try.Goals as goal

pub returns : goal.returns
returns g c = λ m old new fault e. declined-by-all _ m old new fault e
