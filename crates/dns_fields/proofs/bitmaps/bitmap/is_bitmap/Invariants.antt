use Rattle.std.proofs.Common.{◌≡◌, ◌≤◌, length}
use Rattle.dns_fields.specs.bitmaps.Bitmap.{is_bitmap}
use Rattle.dns_fields.proofs.bitmaps.bitmap.is_bitmap.Given as goal

-- the blocks up to here are sound
abbrev pub invariant-loop-left : goal.invariant-loop-left
invariant-loop-left l = record {
  completes : is_bitmap l.least 0 l.left ≡ is_bitmap 0 0 l.bytes;
  least : l.least ≤ 256;
}

abbrev pub decreases-loop-left : goal.decreases-loop-left
decreases-loop-left l = length l.left
