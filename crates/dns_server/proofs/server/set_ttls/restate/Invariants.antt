use Rattle.std.proofs.Common.{◌≡◌, ◌++◌, take}
use Rattle.dns_records.specs.Rows.{rows_of}
use Rattle.dns_server.specs.SetTtls.{restated_rows}
use Rattle.dns_server.proofs.server.set_ttls.restate.Given as goal

abbrev pub invariant-loop-present : goal.invariant-loop-present
invariant-loop-present l = l.records.items ≡ l.fn.records.items ++ restated_rows l.addition (rows_of (take l.present-index l.stored))
