use Rattle.stub_run.proofs.WalkedRuns.{walked-run}
use Rattle.stub_run.proofs.laws.headline.unchanged_zones_are_walked.Goals as goal

pub returns : goal.returns
returns c = λ content first last events reports states occasions zone begins order runs pasts once off small askable.
    walked-run c.updates_keep_zones_well_formed.ensures c.type_number_round_trips.ensures
    (λ text name e. (c.parsing_follows_the_grammar.ensures text name).0 e) content first last events reports states zone begins order runs once
    off small askable occasions pasts
