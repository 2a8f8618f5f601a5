use Rattle.dns_server.proofs.StreamLaws.{written-split}
use Rattle.dns_server.proofs.laws.frames_are_split.Goals as goal

pub returns : goal.returns
returns c = written-split
