use Rattle.std.proofs.Common.{◌≡◌, drop}
use Rattle.dns_fields.specs.bitmaps.Base32.{are_zero}
use Rattle.dns_fields.proofs.bitmaps.base32.are_zero.Given as goal

-- the bytes up to here are zero
abbrev pub invariant-loop-byte : goal.invariant-loop-byte
invariant-loop-byte l = are_zero (drop l.byte-index l.bytes) ≡ are_zero l.bytes
