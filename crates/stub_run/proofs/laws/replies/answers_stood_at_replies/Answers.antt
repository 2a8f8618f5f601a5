use Rattle.stub_run.proofs.WholeRuns.{whole-at-replies}
use Rattle.stub_run.proofs.laws.replies.answers_stood_at_replies.Goals as goal

pub returns : goal.returns
returns c =
    whole-at-replies c.updates_keep_zones_well_formed.ensures c.answers_are_alias_chains.ensures c.type_number_round_trips.ensures
