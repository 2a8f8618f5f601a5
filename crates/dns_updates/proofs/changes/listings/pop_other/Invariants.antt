use Rattle.std.proofs.Common.{◌≡◌, Bool, true, length}
use Rattle.std.specs.List.{list_any}
use Rattle.dns_wire.specs.declared.codes.record_type.RecordType.{RecordType}
use Rattle.dns_updates.specs.Changes.{is_other_set, overlay}
use Rattle.dns_updates.proofs.changes.listings.pop_other.Given as goal

-- no type that was removed passes a test that only types with rows pass
abbrev pub invariant-loop-other : goal.invariant-loop-other
invariant-loop-other g l = (p : RecordType → Bool) → ((t : RecordType) → p t ≡ true → is_other_set (overlay (g.Z.ZoneRows.rows l.zone) l.sets) l.owner l.record_type t ≡ true)
    → list_any p l.initial.types.items ≡ list_any p l.types.items

abbrev pub decreases-loop-other : goal.decreases-loop-other
decreases-loop-other g l = length l.types.items
