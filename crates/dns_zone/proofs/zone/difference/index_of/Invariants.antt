use Rattle.std.proofs.Common.{◌≡◌, take}
use Rattle.dns_differences.specs.Difference.{has_row}
use Rattle.dns_records.specs.declared.row.Row.{Row}
use Rattle.dns_zone.specs.internal.Change.{has_entry, lent_rows}
use Rattle.dns_zone.proofs.zone.difference.index_of.Given as goal

abbrev pub invariant-loop-present : goal.invariant-loop-present
invariant-loop-present l = (row : Row) → has_entry l.index.keys row ≡ has_row (lent_rows (take l.present-index l.records)) row
