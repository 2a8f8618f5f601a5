use Rattle.std.proofs.Common.{◌≡◌, drop}
use Rattle.dns_fields.specs.bitmaps.Base32.{are_digits}
use Rattle.dns_fields.proofs.bitmaps.base32.are_digits.Given as goal

-- the characters up to here are digits
abbrev pub invariant-loop-digit : goal.invariant-loop-digit
invariant-loop-digit l = are_digits (drop l.digit-index l.digits) ≡ are_digits l.digits
