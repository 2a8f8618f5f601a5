use Rattle.std.proofs.Common.{◌≡◌, ◌+◌, ◌-◌, drop, length, option_map}
use Rattle.dns_formats.specs.Wire.{name_end}
use Rattle.dns_formats.proofs.wire.name_len.Given as goal

-- the labels from here on complete the name
abbrev pub invariant-loop-place : goal.invariant-loop-place
invariant-loop-place l = option_map (λ n. l.place + n) (name_end 0 (drop l.place l.bytes)) ≡ name_end 0 l.bytes

abbrev pub decreases-loop-place : goal.decreases-loop-place
decreases-loop-place l = length l.bytes - l.place
