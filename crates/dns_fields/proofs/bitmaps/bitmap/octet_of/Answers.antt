use Rattle.std.proofs.Common.{arith, false, get_or}
use Rattle.dns_fields.specs.bitmaps.Bitmap.{weights}
use Rattle.dns_fields.proofs.BitmapsLoopLaws.{bit_noted, bit_small, total_further}
use Rattle.dns_fields.proofs.bitmaps.bitmap.octet_of.Goals as goal

pub loop-weight-preserved : goal.loop-weight-preserved
loop-weight-preserved c =
    let at = c.loop-weight.invariant.place in
    let bound = c.requires in
    let few = bit_small (get_or c.args.present.now c.loop-weight.place false) _ _ c.weight_if-octet.ensures in
    let fits = total_further weights c.loop-weight.weight-index c.loop-weight.octet c.loop-weight-test.true c.loop-weight.invariant.fits in
    record {
      completes = λ types base are.
          bit_noted weights types c.args.present.now base c.loop-weight.place c.loop-weight.weight-index c.loop-weight.octet _ _
          c.loop-weight-test.true (omega (arith, at, bound, c.loop-weight-test.true)) are c.weight_if-octet.ensures (c.loop-weight.invariant.completes types base are);
      fits = omega (arith, fits, few);
      place = omega (arith, at);
    }
