use Rattle.std.proofs.Common.{◌≡◌, ℕ, List, ◌-◌, ◌++◌, length}
use Rattle.std.specs.Fmt.{HasWritten, IsPlainFormatter}
use Rattle.dns_fields.specs.bitmaps.Base32.{digits_in, digits_from, front_digits}
use Rattle.dns_fields.proofs.bitmaps.base32.write_group.Given as goal

-- the digits that are left complete the text
abbrev pub invariant-loop-index : goal.invariant-loop-index
invariant-loop-index g l = IsPlainFormatter l.initial.f → (done : List ℕ) × HasWritten g.W.Write.write_str_gives l.initial.f done l.f
    × (done ++ digits_from l.bytes l.index (digits_in (length l.bytes) - l.index) ≡ front_digits l.bytes)
