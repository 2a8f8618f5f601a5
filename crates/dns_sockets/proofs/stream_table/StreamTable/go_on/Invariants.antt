-- What happened so far is allowed, and each turn was that of the next place, after the clock was read.
use Rattle.std.proofs.Common.{◌≡◌, ℕ, Some, length}
use Rattle.dns_sockets.specs.Rotation.{first_after}
use Rattle.dns_sockets.specs.Stream.{later_by}
use Rattle.dns_sockets.specs.Trace.{At, StartsWith, Traces}
use Rattle.dns_sockets.specs.World.{Clocked}
use Rattle.dns_sockets.proofs.ConnectionLaws.{OnStreams}
use Rattle.dns_sockets.proofs.stream_table.StreamTable.go_on.Given as goal

abbrev pub invariant-loop-slot : goal.invariant-loop-slot
invariant-loop-slot g l = record {
  acts : OnStreams g.W.World.performs g.H.Handler.steps l.fn.world l.fn.handler l.world l.handler l.fn.self.slots.items l.self.slots.items;
  count : length l.self.slots.items ≡ length l.fn.self.slots.items;
  first : l.self.first ≡ first_after l._slot (length l.fn.self.slots.items) l.fn.self.first;
  capacity : l.self.capacity ≡ l.fn.self.capacity;
  started : (start : ℕ) × ((l.end ≡ later_by start 5) × Traces g.W.World.performs g.H.Handler.steps l.fn.world l.fn.handler l.world l.handler (StartsWith (At (Clocked (Some start)))));
}
