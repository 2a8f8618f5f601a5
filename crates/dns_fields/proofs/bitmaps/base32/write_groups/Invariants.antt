use Rattle.std.proofs.Common.{◌≡◌, ℕ, List, ◌++◌, length}
use Rattle.std.specs.Fmt.{HasWritten, IsPlainFormatter}
use Rattle.dns_fields.specs.bitmaps.Base32.{encoded}
use Rattle.dns_fields.proofs.bitmaps.base32.write_groups.Given as goal

-- the groups that are left complete the text
abbrev pub invariant-loop-left : goal.invariant-loop-left
invariant-loop-left g l = IsPlainFormatter l.initial.f → (done : List ℕ) × HasWritten g.W.Write.write_str_gives l.initial.f done l.f
    × (done ++ encoded l.left ≡ encoded l.bytes)

abbrev pub decreases-loop-left : goal.decreases-loop-left
decreases-loop-left g l = length l.left
