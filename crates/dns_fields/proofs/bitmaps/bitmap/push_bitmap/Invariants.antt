use Rattle.std.proofs.Common.{◌≡◌, ◌-◌, ◌++◌}
use Rattle.dns_fields.specs.bitmaps.Bitmap.{blocks, bitmap_of}
use Rattle.dns_fields.proofs.bitmaps.bitmap.push_bitmap.Given as goal

-- the windows that are left complete the bitmap
abbrev pub invariant-loop-window : goal.invariant-loop-window
invariant-loop-window l = l.out.items ++ blocks l.types l.window (256 - l.window) ≡ l.fn.out.items ++ bitmap_of l.types
