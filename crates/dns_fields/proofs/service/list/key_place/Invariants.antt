use Rattle.std.proofs.Common.{◌≡◌, ◌≤◌, ◌+◌, ◌-◌, length}
use Rattle.dns_fields.specs.service.List.{key_place}
use Rattle.dns_fields.proofs.service.list.key_place.Given as goal

-- the keys up to here are lower
abbrev pub invariant-loop-left : goal.invariant-loop-left
invariant-loop-left l = record {
  completes : (length l.keys - length l.left) + key_place l.key l.left ≡ key_place l.key l.keys;
  within : length l.left ≤ length l.keys;
}

abbrev pub decreases-loop-left : goal.decreases-loop-left
decreases-loop-left l = length l.left
