use Rattle.std.proofs.Common.{◌≡◌, ◌≤◌, ◌+◌, ◌-◌, length}
use Rattle.dns_fields.specs.service.Wire.{place}
use Rattle.dns_fields.proofs.service.wire.place_of.Given as goal

-- the parameters up to here have lower keys
abbrev pub invariant-loop-left : goal.invariant-loop-left
invariant-loop-left l = record {
  completes : (length l.bytes - length l.left) + place l.key 0 l.left ≡ place l.key 0 l.bytes;
  within : length l.left ≤ length l.bytes;
}

abbrev pub decreases-loop-left : goal.decreases-loop-left
decreases-loop-left l = length l.left
