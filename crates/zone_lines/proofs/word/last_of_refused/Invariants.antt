use Rattle.std.proofs.Common.{◌-◌}
use Rattle.zone_lines.proofs.WordLaws.{Between}
use Rattle.zone_lines.proofs.word.last_of_refused.Given as goal

-- the first tokens begin a record, and some more are refused
abbrev pub invariant-loop-refused : goal.invariant-loop-refused
invariant-loop-refused l = Between l.context l.tokens l.accepted l.refused

abbrev pub decreases-loop-refused : goal.decreases-loop-refused
decreases-loop-refused l = l.refused - l.accepted
