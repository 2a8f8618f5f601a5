use Rattle.std.proofs.Common.{◌≡◌, drop}
use Rattle.dns_zone.specs.Rows.{Key}
use Rattle.dns_zone.specs.Sets.{set_at}
use Rattle.dns_zone.specs.internal.Store.{changed_keys, released_at, reserved_at}
use Rattle.dns_zone.proofs.sets.ZoneSets.reserve.Given as goal

-- the changed sets that are left reserve the rest, and what is reserved is released by all
abbrev pub invariant-loop-set : goal.invariant-loop-set
invariant-loop-set l = ((k : Key) → reserved_at (drop l.set-index l.changed) k (set_at l.self k) ≡ reserved_at l.changed k (set_at l.initial.self k))
    × ((k : Key) → released_at (changed_keys l.changed) k (set_at l.self k) ≡ released_at (changed_keys l.changed) k (set_at l.initial.self k))
