use Rattle.stub_laws.proofs.DirectLaws.{everywhere-direct}
use Rattle.stub_laws.proofs.walk.laws.walks.other_lookups_walk_everywhere.Goals as goal

pub returns : goal.returns
returns c = everywhere-direct
