use Rattle.stub_laws.proofs.MismatchLaws.{no-mismatch}
use Rattle.stub_laws.proofs.history.laws.asking.streams_bring_the_reply.Goals as goal

pub returns : goal.returns
returns c = λ m old new outcome x. no-mismatch m old outcome new x
