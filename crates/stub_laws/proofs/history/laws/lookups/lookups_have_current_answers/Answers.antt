use Rattle.std.proofs.Common.{[], sym}
use Rattle.std.proofs.lemmas.List.{append-nil}
use Rattle.stub_laws.proofs.LedLaws.{led-since}
use Rattle.stub_laws.proofs.history.laws.lookups.lookups_have_current_answers.Goals as goal

pub returns : goal.returns
returns c = λ origin options now old new asks later f at led memory once.
    led-since options now c.updates_keep_zones_well_formed.ensures origin old.link.history old new asks later
    ([], sym (append-nil old.link.history)) f at led memory once
