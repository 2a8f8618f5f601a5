use Rattle.std.proofs.Common.{◌++◌, rules}
use Rattle.std.proofs.Output.{has_written_append}
use Rattle.dns_data.specs.Field.{option_form}
use Rattle.dns_data.specs.Text.{hex_text}
use Rattle.dns_data.proofs.PrintingLaws.{options_further}
use Rattle.dns_data.proofs.rdata.opt.write_options.Goals as goal

pub loop-option-preserved : goal.loop-option-preserved
loop-option-preserved g c = λ plain.
    let so_far = c.loop-option.invariant plain in (
      so_far.0 ++ hex_text (option_form c.option-item.result),
      has_written_append _ _ _ _ _ _ so_far.1 (search rules),
      options_further c.args.options.now c.loop-option.option-index c.option-item.result _ so_far.0 _ c.option-item.is c.loop-option-test.true so_far.2,
    )
