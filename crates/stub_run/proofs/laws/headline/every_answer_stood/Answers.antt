use Rattle.stub_run.proofs.WholeRuns.{whole-run}
use Rattle.stub_run.proofs.laws.headline.every_answer_stood.Goals as goal

pub returns : goal.returns
returns c = whole-run c.updates_keep_zones_well_formed.ensures c.answers_are_alias_chains.ensures c.type_number_round_trips.ensures
