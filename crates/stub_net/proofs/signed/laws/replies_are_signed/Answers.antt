use Rattle.std.specs.Prelude.{Ok}
use Rattle.stub_net.proofs.SignedLaws.{exchange_signed}
use Rattle.stub_net.proofs.signed.laws.replies_are_signed.Goals as goal

pub returns : goal.returns
returns g c = λ m old new response e. exchange_signed _ m old (Ok response) new e
