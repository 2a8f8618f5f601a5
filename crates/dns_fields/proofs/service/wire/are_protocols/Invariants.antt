use Rattle.std.proofs.Common.{◌≡◌, length}
use Rattle.dns_fields.specs.service.Wire.{are_protocols}
use Rattle.dns_fields.proofs.service.wire.are_protocols.Given as goal

-- the identifiers up to here are sound
abbrev pub invariant-loop-left : goal.invariant-loop-left
invariant-loop-left l = are_protocols 0 l.left ≡ are_protocols 0 l.value

abbrev pub decreases-loop-left : goal.decreases-loop-left
decreases-loop-left l = length l.left
