use Rattle.stub_laws.proofs.LedLaws.{led-holds}
use Rattle.stub_laws.proofs.history.laws.lookups.lookups_have_answers_that_stood.Goals as goal

pub returns : goal.returns
returns c = λ origin options now old new asks later f at led memory once.
    led-holds options now c.updates_keep_zones_well_formed.ensures origin old new asks later f at led memory once
