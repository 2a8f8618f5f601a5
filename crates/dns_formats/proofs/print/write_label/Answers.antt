use Rattle.std.proofs.Common.{◌++◌, get_or, arith, rules}
use Rattle.std.proofs.Output.{has_written_append}
use Rattle.dns_names.specs.Print.{octet_text}
use Rattle.dns_names.proofs.PrintingLaws.{octet_more}
use Rattle.dns_formats.proofs.print.write_label.Goals as goal

pub loop-octet-preserved : goal.loop-octet-preserved
loop-octet-preserved g c = λ plain.
    let so_far = c.loop-octet.invariant plain in (
      so_far.0 ++ octet_text c.loop-octet.is_first (get_or c.args.label.now c.loop-octet.octet-index 0),
      has_written_append _ _ _ _ _ _ so_far.1 (search rules),
      octet_more c.loop-octet.is_first c.args.label.now c.loop-octet.octet-index so_far.0 _ (omega arith) so_far.2,
    )
