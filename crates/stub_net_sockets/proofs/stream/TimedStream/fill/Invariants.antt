use Rattle.std.proofs.Common.{length, ◌-◌, ◌≡◌, ◌≤◌}
use Rattle.stub_net_sockets.proofs.stream.TimedStream.fill.Given as goal

-- The front of the buffer, whose length stays, is filled, and the clock has not gone back.
abbrev pub invariant-loop-filled : goal.invariant-loop-filled
invariant-loop-filled g l = record {
  within : l.filled ≤ length l.buffer;
  buffer : length l.buffer ≡ length l.initial.buffer;
  reference : l.self.clock.ghost_name ≡ l.initial.self.clock.ghost_name;
  kept : l.initial.self.clock.now.last ≤ l.self.clock.now.last;
}

abbrev pub decreases-loop-filled : goal.decreases-loop-filled
decreases-loop-filled g l = length l.initial.buffer - l.filled
