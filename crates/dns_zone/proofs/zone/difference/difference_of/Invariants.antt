use Rattle.std.proofs.Common.{◌≡◌, take}
use Rattle.std.specs.List.{flat_map}
use Rattle.dns_zone.specs.Rows.{rows_of_sets}
use Rattle.dns_zone.specs.internal.Change.{records_added, records_deleted}
use Rattle.dns_zone.proofs.zone.difference.difference_of.Given as goal

abbrev pub invariant-loop-set : goal.invariant-loop-set
invariant-loop-set l = record {
  deleted : l.deleted.items ≡ flat_map (records_deleted (rows_of_sets l.sets)) (take l.set-index l.changed);
  added : l.added.items ≡ flat_map (records_added (rows_of_sets l.sets)) (take l.set-index l.changed);
}
