use Rattle.std.proofs.Common.{refl}
use Rattle.dns_fields.specs.bitmaps.Bitmap.{bitmap_of}
use Rattle.dns_fields.proofs.BitmapsLoopLaws.{blocks_further, blocks_end}
use Rattle.dns_fields.proofs.bitmaps.bitmap.push_bitmap.Goals as goal

pub loop-window-init : goal.loop-window-init
unfolding bitmap_of
loop-window-init c = refl

pub loop-window-preserved : goal.loop-window-preserved
loop-window-preserved c =
    rw c.in_ok-push_block.ensures (blocks_further c.args.types.now c.loop-window.window c.loop-window.out.items _ c.loop-window-test.true c.loop-window.invariant)

pub returns : goal.returns
returns c = blocks_end c.args.types.now c.loop-window.window c.loop-window.out.items _ c.loop-window-test.false c.loop-window.invariant
