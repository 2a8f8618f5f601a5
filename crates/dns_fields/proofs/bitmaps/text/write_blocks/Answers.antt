use Rattle.std.proofs.Common.{List, ℕ, ◌-◌, ◌*◌, ◌++◌, take, drop, get_or, subst, ap, ◌∙◌, arith, rules}
use Rattle.std.specs.Fmt.{HasWritten}
use Rattle.std.proofs.Output.{has_written_append}
use Rattle.dns_fields.specs.bitmaps.Bitmap.{types_of_octets, types_of, spaced_types}
use Rattle.dns_fields.proofs.BitmapsLoopLaws.{slice_is, block_written, no_types}
use Rattle.dns_fields.proofs.bitmaps.text.write_blocks.Goals as goal

pub loop-left-preserved : goal.loop-left-preserved
loop-left-preserved g c = λ plain.
    let so_far = c.loop-left.invariant plain in
    let left = c.loop-left.left.now in
    let end = c.min-end.result in
    let text : List ℕ = spaced_types (types_of_octets (256 * get_or left 0 0) (take (end - 2) (drop 2 left))) in (
      so_far.0 ++ text,
      has_written_append _ _ _ _ _ _ so_far.1 (search rules),
      ap (λ (l : List ℕ). (so_far.0 ++ text) ++ spaced_types (types_of 0 0 l)) (slice_is left end)
          ∙ block_written left end so_far.0 _ (omega arith) (search rules) so_far.2,
    )

pub returns : goal.returns
returns g c = λ plain ok.
    let so_far = c.loop-left.invariant plain in
    subst (λ (l : List ℕ). HasWritten g.W.Write.write_str_gives c.args.f.now l c.loop-left.f)
    (no_types c.loop-left.left.now so_far.0 _ (omega arith) so_far.2) so_far.1
