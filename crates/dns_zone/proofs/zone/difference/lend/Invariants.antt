use Rattle.std.proofs.Common.{◌≡◌, take}
use Rattle.dns_zone.specs.Rows.{rows_of}
use Rattle.dns_zone.specs.internal.Change.{lent_rows}
use Rattle.dns_zone.proofs.zone.difference.lend.Given as goal

abbrev pub invariant-loop-present : goal.invariant-loop-present
invariant-loop-present l = lent_rows l.lent.items ≡ rows_of (take l.present-index l.records)
