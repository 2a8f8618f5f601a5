use Rattle.std.proofs.Common.{◌≡◌, ◌≤◌, length}
use Rattle.dns_fields.specs.service.Wire.{are_mandatory}
use Rattle.dns_fields.proofs.service.wire.are_mandatory.Given as goal

-- the keys up to here are sound
abbrev pub invariant-loop-left : goal.invariant-loop-left
invariant-loop-left l = record {
  completes : are_mandatory l.all l.least l.left ≡ are_mandatory l.all 1 l.keys;
  least : l.least ≤ 65536;
}

abbrev pub decreases-loop-left : goal.decreases-loop-left
decreases-loop-left l = length l.left
