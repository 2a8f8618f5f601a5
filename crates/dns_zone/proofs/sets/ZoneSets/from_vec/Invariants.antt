use Rattle.std.proofs.Common.{◌≡◌, length}
use Rattle.dns_zone.specs.Rows.{Key}
use Rattle.dns_zone.specs.Sets.{set_at}
use Rattle.dns_zone.proofs.GatherLaws.{or_set}
use Rattle.dns_zone.proofs.sets.ZoneSets.from_vec.Given as goal

-- the first set at a key is among those that are left, or else among those that were inserted
abbrev pub invariant-loop-set : goal.invariant-loop-set
invariant-loop-set l = (k : Key) → or_set (set_at l.sets.items k) (set_at l.kept k) ≡ set_at l.fn.sets.items k

abbrev pub decreases-loop-set : goal.decreases-loop-set
decreases-loop-set l = length l.sets.items
