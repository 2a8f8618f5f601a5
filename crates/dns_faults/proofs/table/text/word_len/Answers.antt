use Rattle.dns_faults.proofs.WordLaws.{place-is, no-place}
use Rattle.dns_faults.proofs.table.text.word_len.Goals as goal

pub returns-in-Some : goal.returns-in-Some
returns-in-Some c = place-is c.args.text.now c.in-Some.place c.in-Some.ensures

pub returns-in-None : goal.returns-in-None
returns-in-None c = no-place c.args.text.now c.in-None.ensures
