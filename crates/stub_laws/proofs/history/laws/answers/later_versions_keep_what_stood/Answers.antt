use Rattle.stub_laws.proofs.LaterLaws.{answered-still}
use Rattle.stub_laws.proofs.StandLaws.{stand-still}
use Rattle.stub_laws.proofs.history.laws.answers.later_versions_keep_what_stood.Goals as goal

pub returns-clause-rows : goal.returns-clause-rows
returns-clause-rows c = stand-still

pub returns-clause-outcomes : goal.returns-clause-outcomes
returns-clause-outcomes c = answered-still
