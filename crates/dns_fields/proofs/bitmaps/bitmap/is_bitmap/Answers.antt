use Rattle.std.proofs.Common.{◌+◌, List, ℕ, length, get_or, sym, ap, ◌∙◌, rules}
use Rattle.dns_fields.specs.bitmaps.Bitmap.{is_bitmap}
use Rattle.dns_fields.proofs.BitmapsLoopLaws.{slice_is, some_of, block_further, block_stops}
use Rattle.dns_fields.proofs.bitmaps.bitmap.is_bitmap.Goals as goal

pub returns-in_default : goal.returns-in_default
returns-in_default c =
    sym (block_stops c.loop-left.least c.loop-left.left.now _ (some_of (length c.loop-left.left.now) c.loop-left-test.ensures) (sym c.in_default.ensures.value) c.loop-left.invariant.completes)

pub loop-left-preserved : goal.loop-left-preserved
loop-left-preserved c = record {
  completes = rw c.from-least.ensures (ap (λ (l : List ℕ). is_bitmap (get_or c.loop-left.left.now 0 0 + 1) 0 l) (slice_is c.loop-left.left.now c.in-Some.len)
      ∙ block_further c.loop-left.least c.in-Some.len c.loop-left.left.now _ (some_of (length c.loop-left.left.now) c.loop-left-test.ensures) (sym c.in-Some.ensures.value) c.loop-left.invariant.completes);
  least = search rules;
}
