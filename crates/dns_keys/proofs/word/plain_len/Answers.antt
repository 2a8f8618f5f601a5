use Rattle.dns_keys.proofs.WordLaws.{place-is, no-place}
use Rattle.dns_keys.proofs.word.plain_len.Goals as goal

pub returns-in-Some-clause-len : goal.returns-in-Some-clause-len
returns-in-Some-clause-len c = place-is c.args.text.now c.in-Some.place c.in-Some.ensures.place

pub returns-in-None-clause-len : goal.returns-in-None-clause-len
returns-in-None-clause-len c = no-place c.args.text.now c.in-None.ensures.place
