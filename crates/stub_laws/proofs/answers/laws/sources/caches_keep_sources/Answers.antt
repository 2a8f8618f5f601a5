use Rattle.stub_laws.proofs.SourcesLaws.{sources-cleared, sources-empty, sources-later, sources-on}
use Rattle.stub_laws.proofs.answers.laws.sources.caches_keep_sources.Goals as goal

pub returns-clause-later : goal.returns-clause-later
returns-clause-later c = sources-later

pub returns-clause-on : goal.returns-clause-on
returns-clause-on c = sources-on

pub returns-clause-cleared : goal.returns-clause-cleared
returns-clause-cleared c = sources-cleared

pub returns-clause-empty : goal.returns-clause-empty
returns-clause-empty c = sources-empty
