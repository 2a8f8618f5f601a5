use Rattle.std.proofs.Common.{◌≡◌, take}
use Rattle.std.specs.List.{fold}
use Rattle.dns_wire.specs.declared.codes.record_type.RecordType.{RecordType}
use Rattle.dns_records.specs.Rows.{Rows}
use Rattle.dns_updates.specs.Change.{without_set}
use Rattle.dns_updates.specs.Changes.{overlay}
use Rattle.dns_updates.proofs.changes.deletions.delete_types.Given as goal

abbrev pub invariant-loop-record_type : goal.invariant-loop-record_type
invariant-loop-record_type l = (rows : Rows) → overlay rows l.sets ≡ fold (λ (left : Rows) (t : RecordType). without_set l.origin left l.owner t) (overlay rows l.fn.sets) (take l.record_type-index l.found)
