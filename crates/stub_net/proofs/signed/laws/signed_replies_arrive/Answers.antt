use Rattle.std.specs.Prelude.{Ok}
use Rattle.stub_net.specs.Script.{script_calls}
use Rattle.stub_net.proofs.ArrivalLaws.{reply_arrived}
use Rattle.stub_net.proofs.SignedLaws.{exchange_signed}
use Rattle.stub_net.proofs.signed.laws.signed_replies_arrive.Goals as goal

pub returns : goal.returns
returns g c = λ m old new response e. reply_arrived _ _ m _ _ response (exchange_signed script_calls m old (Ok response) new e)
