use Rattle.stub_run.proofs.SteadyRuns.{steady-run}
use Rattle.stub_run.proofs.laws.headline.unchanged_zones_are_steady.Goals as goal

pub returns : goal.returns
returns c = steady-run c.updates_keep_zones_well_formed.ensures c.answers_are_alias_chains.ensures c.type_number_round_trips.ensures
