use Rattle.std.proofs.Common.{◌≡◌, take}
use Rattle.dns_sockets.specs.Deadlines.{earliest, slot_deadline}
use Rattle.dns_sockets.proofs.stream_table.earliest_slot.Given as goal

-- the earliest so far
abbrev pub invariant-loop-slot : goal.invariant-loop-slot
invariant-loop-slot l = l.least ≡ earliest slot_deadline (take l.slot-index l.slots)
