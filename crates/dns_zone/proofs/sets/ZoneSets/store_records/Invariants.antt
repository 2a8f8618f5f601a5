use Rattle.std.proofs.Common.{◌≡◌, ◌≤◌, length, take, drop}
use Rattle.dns_zone.specs.Rows.{Key}
use Rattle.dns_zone.specs.Sets.{set_at}
use Rattle.dns_zone.specs.internal.Store.{changed_keys, stored_at}
use Rattle.dns_zone.proofs.sets.ZoneSets.store_records.Given as goal

-- the changed sets from an index on are stored, and those before it are as they were
abbrev pub invariant-loop-index : goal.invariant-loop-index
invariant-loop-index l = (l.index ≤ length l.initial.changed) × (length l.changed ≡ length l.initial.changed)
    × (take l.index l.changed ≡ take l.index l.initial.changed) × (changed_keys l.changed ≡ changed_keys l.initial.changed)
    × ((k : Key) → set_at l.self k ≡ stored_at (drop l.index l.initial.changed) k (set_at l.initial.self k))

abbrev pub decreases-loop-index : goal.decreases-loop-index
decreases-loop-index l = l.index
