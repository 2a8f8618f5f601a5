use Rattle.std.proofs.Common.{length, ◌-◌, ◌≡◌, ◌≤◌}
use Rattle.stub_net_sockets.proofs.stream.TimedStream.write_all.Given as goal

-- The front of the bytes is written, and the clock has not gone back.
abbrev pub invariant-loop-done : goal.invariant-loop-done
invariant-loop-done g l = record {
  within : l.done ≤ length l.bytes;
  reference : l.self.clock.ghost_name ≡ l.initial.self.clock.ghost_name;
  kept : l.initial.self.clock.now.last ≤ l.self.clock.now.last;
}

abbrev pub decreases-loop-done : goal.decreases-loop-done
decreases-loop-done g l = length l.bytes - l.done
