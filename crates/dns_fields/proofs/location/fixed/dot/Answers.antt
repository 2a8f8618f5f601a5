use Rattle.dns_fields.proofs.FixedLaws.{place_is, no_place}
use Rattle.dns_fields.proofs.location.fixed.dot.Goals as goal

pub returns-in-Some-clause-value : goal.returns-in-Some-clause-value
returns-in-Some-clause-value c = place_is c.args.text.now c.in-Some.place c.in-Some.ensures.place

pub returns-in-None-clause-value : goal.returns-in-None-clause-value
returns-in-None-clause-value c = no_place c.args.text.now c.in-None.ensures.place
