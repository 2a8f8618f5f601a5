use Rattle.stub_run.proofs.SourcesRuns.{sources-run}
use Rattle.stub_run.proofs.laws.replies.answers_have_sources.Goals as goal

pub returns : goal.returns
returns c = sources-run c.updates_keep_zones_well_formed.ensures c.answers_are_alias_chains.ensures
