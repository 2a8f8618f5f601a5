use Rattle.std.proofs.Common.{◌-◌, ◌≤◌, length}
use Rattle.dns_names.specs.internal.Wire.{RunIs}
use Rattle.dns_names.proofs.name.wire.run_end.Given as goal

abbrev pub invariant-loop-next : goal.invariant-loop-next
invariant-loop-next l = record {
  run : RunIs l.bytes l.place l.room l.end l.count;
  within : l.end ≤ length l.bytes;
}

abbrev pub decreases-loop-next : goal.decreases-loop-next
decreases-loop-next l = length l.bytes - l.end
