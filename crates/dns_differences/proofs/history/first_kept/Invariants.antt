use Rattle.dns_differences.proofs.HistoryLaws.{Leaves}
use Rattle.dns_differences.proofs.history.first_kept.Given as goal

-- the differences from `start` on are within the limits, and leave this room
abbrev pub invariant-loop-start : goal.invariant-loop-start
invariant-loop-start l = Leaves l.limits l.differences l.start l.room l.octets_room

abbrev pub decreases-loop-start : goal.decreases-loop-start
decreases-loop-start l = l.start
