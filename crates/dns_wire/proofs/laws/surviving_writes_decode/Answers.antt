use Rattle.dns_wire.proofs.CallLaws.{calls-read}
use Rattle.dns_wire.proofs.laws.surviving_writes_decode.Goals as goal

pub returns : goal.returns
returns c = λ old w parts end stand calls. calls-read old w parts end stand calls
