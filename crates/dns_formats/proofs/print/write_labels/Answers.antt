use Rattle.std.proofs.Common.{List, ℕ, ◌+◌, [], ◌∷◌, ◌++◌, length, ap, ◌∙◌, rules}
use Rattle.std.proofs.Output.{has_written_append}
use Rattle.dns_names.specs.Print.{label_text}
use Rattle.dns_text.proofs.FrontLaws.{slice_is}
use Rattle.dns_formats.specs.Print.{labels_at}
use Rattle.dns_formats.proofs.PrintLaws.{each_dotted, some_of, labels_further}
use Rattle.dns_formats.proofs.print.write_labels.Goals as goal

pub loop-left-preserved : goal.loop-left-preserved
loop-left-preserved g c = λ plain.
    let so_far = c.loop-left.invariant plain in
    let left = c.loop-left.left.now in
    let label = c.counted_octets-label.result.now in (
      so_far.0 ++ (label_text label ++ 46 ∷ []),
      has_written_append _ _ _ _ _ _ so_far.1 (search rules),
      ap (λ (l : List ℕ). (so_far.0 ++ (label_text label ++ 46 ∷ [])) ++ each_dotted (labels_at 0 l)) (slice_is left (1 + length label))
          ∙ labels_further left label so_far.0 _ (some_of (length left) c.loop-left-test.ensures) c.if-left-ne0.true c.counted_octets-label.ensures so_far.2,
    )
