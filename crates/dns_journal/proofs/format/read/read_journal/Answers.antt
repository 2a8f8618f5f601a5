use Rattle.dns_journal.proofs.format.read.read_journal.Goals as goal

pub returns-in-Some-clause-decided : goal.returns-in-Some-clause-decided
returns-in-Some-clause-decided c none =
    absurd (none (record { head = c.in-Some.parts.head.now; rest = c.in-Some.parts.rest.now; head_len = c.in-Some.ensures.len; parts = c.in-Some.ensures.found }))
