use Rattle.zone_lines.proofs.word.index_at_fault.Goals as goal

pub returns-in-Begins : goal.returns-in-Begins
returns-in-Begins c = rw c.in-Begins.is at c.in_ok-judge.ensures
