use Rattle.std.proofs.Common.{◌≡◌, ◌++◌, length}
use Rattle.std.specs.BTreeMap.{values}
use Rattle.dns_updates.proofs.changes.changed_sets.ChangedSets.into_vec.Given as goal

-- the sets that are left complete the list
abbrev pub invariant-loop-set : goal.invariant-loop-set
invariant-loop-set l = l.sets.items ++ values l.map ≡ l.fn.self

abbrev pub decreases-loop-set : goal.decreases-loop-set
decreases-loop-set l = length l.map.entries
