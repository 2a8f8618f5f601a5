use Rattle.std.proofs.Common.{◌≡◌, length, option_map, ◌++◌}
use Rattle.dns_fields.specs.bitmaps.Base32.{groups}
use Rattle.dns_fields.proofs.bitmaps.base32.decode_base32.Given as goal

-- the groups that are left complete the bytes
abbrev pub invariant-loop-left : goal.invariant-loop-left
invariant-loop-left l = option_map (λ more. l.bytes.items ++ more) (groups l.left) ≡ groups l.digits

abbrev pub decreases-loop-left : goal.decreases-loop-left
decreases-loop-left l = length l.left
