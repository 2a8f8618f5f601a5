use Rattle.std.proofs.Common.{◌++◌, get_or, rules}
use Rattle.std.proofs.Output.{has_written_append}
use Rattle.dns_fields.specs.service.Text.{octet_text}
use Rattle.dns_fields.proofs.TextLaws.{octet_further}
use Rattle.dns_fields.proofs.service.text.write_word.Goals as goal

pub loop-octet-preserved : goal.loop-octet-preserved
loop-octet-preserved g c = λ plain.
    let so_far = c.loop-octet.invariant plain in (
      so_far.0 ++ octet_text (get_or c.args.octets.now c.loop-octet.octet-index 0),
      has_written_append _ _ _ _ _ _ so_far.1 (search rules),
      octet_further c.args.octets.now c.loop-octet.octet-index so_far.0 _ c.loop-octet-test.true so_far.2,
    )
