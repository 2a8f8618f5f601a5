-- The connections are as they were.
use Rattle.dns_sockets.specs.Connections.{AreKept}
use Rattle.dns_sockets.proofs.stream_table.trim.Given as goal

abbrev pub invariant-loop-slot : goal.invariant-loop-slot
invariant-loop-slot l = AreKept l.initial.slots.items l.slots.items
