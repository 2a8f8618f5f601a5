use Rattle.std.proofs.Common.{◌++◌, get_or, arith, rules}
use Rattle.std.proofs.Output.{has_written_append}
use Rattle.dns_fields.specs.bitmaps.Bitmap.{weights, types_of_octet, spaced_types}
use Rattle.dns_fields.proofs.BitmapsLoopLaws.{octet_written}
use Rattle.dns_fields.proofs.bitmaps.text.write_octets.Goals as goal

pub loop-octet-preserved : goal.loop-octet-preserved
loop-octet-preserved g c = record {
  place = let at = c.loop-octet.invariant.place in omega (arith, at);
  completes = λ plain.
      let so_far = c.loop-octet.invariant.completes plain in (
        so_far.0 ++ spaced_types (types_of_octet weights c.loop-octet.number (get_or c.args.octets.now c.loop-octet.octet-index 0)),
        has_written_append _ _ _ _ _ _ so_far.1 (search rules),
        octet_written c.args.octets.now c.loop-octet.octet-index c.loop-octet.number so_far.0 _ c.loop-octet-test.true so_far.2,
      );
}
