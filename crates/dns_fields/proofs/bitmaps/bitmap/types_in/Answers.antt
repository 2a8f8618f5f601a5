use Rattle.std.proofs.Common.{◌||◌, ◌+◌, ◌*◌, ◌%◌, ◌∙◌, Bool, false, get_or, ap}
use Rattle.std.proofs.lemmas.List.{get_or-replicate, length-replicate}
use Rattle.dns_fields.specs.bitmaps.Bitmap.{has_type}
use Rattle.dns_fields.proofs.BitmapsLoopLaws.{noting_len, type_noted}
use Rattle.dns_fields.proofs.bitmaps.bitmap.types_in.Goals as goal

pub loop-number-init : goal.loop-number-init
loop-number-init c = record {
  noted = λ place small.
      ap (λ (b : Bool). b || has_type c.args.types.now (256 * c.args.window + place)) (get_or-replicate 256 place false false small);
  len = length-replicate 256 false;
}

pub loop-number-preserved : goal.loop-number-preserved
loop-number-preserved c = record {
  noted =
      type_noted c.args.types.now c.loop-number.present c.loop-number.number-index c.args.window c.loop-number-test.true c.loop-number.invariant.noted
      _ c.loop-number.invariant.len c.note_type.ensures;
  len =
      noting_len _ c.loop-number.present (get_or c.args.types.now c.loop-number.number-index 0 % 256) _ c.note_type.ensures
      ∙ c.loop-number.invariant.len;
}
