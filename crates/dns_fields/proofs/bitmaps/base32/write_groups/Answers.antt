use Rattle.std.proofs.Common.{List, ℕ, ◌++◌, length, ap, ◌∙◌, rules}
use Rattle.std.proofs.Output.{has_written_append}
use Rattle.dns_fields.specs.bitmaps.Base32.{front_digits, encoded}
use Rattle.dns_fields.proofs.BitmapsLoopLaws.{slice_is, some_of}
use Rattle.dns_fields.proofs.Base32Laws.{group_written}
use Rattle.dns_fields.proofs.bitmaps.base32.write_groups.Goals as goal

pub loop-left-preserved : goal.loop-left-preserved
loop-left-preserved g c = λ plain.
    let so_far = c.loop-left.invariant plain in
    let left = c.loop-left.left.now in (
      so_far.0 ++ front_digits left,
      has_written_append _ _ _ _ _ _ so_far.1 (search rules),
      ap (λ (l : List ℕ). (so_far.0 ++ front_digits left) ++ encoded l) (slice_is left c.min.result)
          ∙ group_written left c.min.result so_far.0 _ (some_of (length left) c.loop-left-test.ensures) (search rules) so_far.2,
    )
