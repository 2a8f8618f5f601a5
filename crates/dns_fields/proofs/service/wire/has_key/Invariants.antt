use Rattle.std.proofs.Common.{◌≡◌, length}
use Rattle.dns_fields.specs.service.Wire.{has_key}
use Rattle.dns_fields.proofs.service.wire.has_key.Given as goal

-- the parameters up to here have other keys
abbrev pub invariant-loop-left : goal.invariant-loop-left
invariant-loop-left l = has_key l.key 0 l.left ≡ has_key l.key 0 l.bytes

abbrev pub decreases-loop-left : goal.decreases-loop-left
decreases-loop-left l = length l.left
