use Rattle.std.proofs.Common.{◌≡◌, ◌≤◌, take}
use Rattle.dns_sockets.specs.StreamTable.{transfers}
use Rattle.dns_sockets.proofs.stream_table.count_transfers.Given as goal

-- those of the connections so far are counted
abbrev pub invariant-loop-slot : goal.invariant-loop-slot
invariant-loop-slot l = (l.count ≡ transfers (take l.slot-index l.slots)) × (l.count ≤ l.slot-index)
