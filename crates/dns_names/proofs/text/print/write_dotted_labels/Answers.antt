use Rattle.std.proofs.Common.{◌∷◌, ◌++◌, rules}
use Rattle.std.proofs.Output.{has_written_append}
use Rattle.dns_names.specs.Print.{label_text}
use Rattle.dns_names.proofs.PrintingLaws.{label_behind}
use Rattle.dns_names.proofs.text.print.write_dotted_labels.Goals as goal

pub loop-index-preserved : goal.loop-index-preserved
loop-index-preserved g c = λ plain.
    let so_far = c.loop-index.invariant plain in (
      so_far.0 ++ (46 ∷ label_text c.label_at.result.now),
      has_written_append _ _ _ _ _ _ so_far.1 (search rules),
      label_behind c.args.name.now.labels c.loop-index.index c.label_at.result.now so_far.0 _ c.label_at.ensures so_far.2,
    )
