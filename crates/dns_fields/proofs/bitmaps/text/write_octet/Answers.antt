use Rattle.std.proofs.Common.{◌+◌, ◌++◌, ℕ, drop, get_or, ap, ◌∙◌, arith, rules}
use Rattle.std.proofs.Output.{has_written_append}
use Rattle.dns_fields.specs.bitmaps.Bitmap.{weights, bit_types, types_of_octet, spaced_types}
use Rattle.dns_fields.proofs.BitmapsLoopLaws.{bit_written}
use Rattle.dns_fields.proofs.bitmaps.text.write_octet.Goals as goal

pub loop-weight-preserved : goal.loop-weight-preserved
loop-weight-preserved g c =
    let i = c.loop-weight.weight-index in
    let number = c.loop-weight.number in
    let left = c.loop-weight.left in
    record {
      place = let at = c.loop-weight.invariant.place in omega (arith, at);
      completes = λ plain.
          let so_far = c.loop-weight.invariant.completes plain in (
            so_far.0 ++ spaced_types (bit_types (get_or weights i 0) number left),
            has_written_append _ _ _ _ _ _ so_far.1 (search rules),
            ap (λ (n : ℕ). (so_far.0 ++ spaced_types (bit_types (get_or weights i 0) number left)) ++ spaced_types (types_of_octet (drop (i + 1) weights) (number + 1) n)) c.without-left.ensures
                ∙ bit_written weights i number left so_far.0 _ c.loop-weight-test.true so_far.2,
          );
    }
