use Rattle.std.proofs.Common.{◌∷◌, ◌++◌, ◌∙◌, rules}
use Rattle.std.proofs.Output.{has_written_append}
use Rattle.dns_text.specs.CharacterString.{quoted_text}
use Rattle.dns_data.proofs.PrintingLaws.{strings_further}
use Rattle.dns_data.proofs.rdata.txt.write_more_strings.Goals as goal

pub loop-string-preserved : goal.loop-string-preserved
loop-string-preserved g c = λ plain.
    let so_far = c.loop-string.invariant plain in (
      so_far.0 ++ 32 ∷ quoted_text c.as_slice.result.now,
      has_written_append _ _ _ _ _ _ so_far.1 (search rules),
      strings_further c.args.strings.now c.loop-string.string-index c.as_slice.result.now _ so_far.0 _ (c.as_slice.ensures.value ∙ c.string-item.is) c.loop-string-test.true so_far.2,
    )
