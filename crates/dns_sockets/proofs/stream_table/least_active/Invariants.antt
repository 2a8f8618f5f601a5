use Rattle.std.proofs.Common.{◌≤◌}
use Rattle.dns_sockets.proofs.StreamTableLaws.{IsLeast}
use Rattle.dns_sockets.proofs.stream_table.least_active.Given as goal

abbrev pub invariant-loop-index : goal.invariant-loop-index
invariant-loop-index l = record { within : l.least ≤ l.index; least : IsLeast l.slots l.least l.index }
