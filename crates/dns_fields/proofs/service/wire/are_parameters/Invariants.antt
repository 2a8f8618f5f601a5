use Rattle.std.proofs.Common.{◌≡◌, ◌≤◌, length}
use Rattle.dns_fields.specs.service.Wire.{are_parameters}
use Rattle.dns_fields.proofs.service.wire.are_parameters.Given as goal

-- the parameters up to here are sound
abbrev pub invariant-loop-left : goal.invariant-loop-left
invariant-loop-left l = record {
  completes : are_parameters l.bytes l.least 0 l.left ≡ are_parameters l.bytes 0 0 l.bytes;
  least : l.least ≤ 65536;
}

abbrev pub decreases-loop-left : goal.decreases-loop-left
decreases-loop-left l = length l.left
