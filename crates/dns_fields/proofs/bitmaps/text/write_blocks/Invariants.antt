use Rattle.std.proofs.Common.{◌≡◌, ℕ, List, ◌++◌, length}
use Rattle.std.specs.Fmt.{HasWritten, IsPlainFormatter}
use Rattle.dns_fields.specs.bitmaps.Bitmap.{types_of, spaced_types}
use Rattle.dns_fields.proofs.bitmaps.text.write_blocks.Given as goal

-- the blocks that are left complete the text
abbrev pub invariant-loop-left : goal.invariant-loop-left
invariant-loop-left g l = IsPlainFormatter l.initial.f → (done : List ℕ) × HasWritten g.W.Write.write_str_gives l.initial.f done l.f
    × (done ++ spaced_types (types_of 0 0 l.left) ≡ spaced_types (types_of 0 0 l.bytes))

abbrev pub decreases-loop-left : goal.decreases-loop-left
decreases-loop-left g l = length l.left
