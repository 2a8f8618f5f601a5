use Rattle.std.proofs.Common.{[], ◌∷◌, ◌++◌, refl, rules}
use Rattle.std.proofs.Output.{has_written_append}
use Rattle.dns_data.proofs.PrintingLaws.{further}
use Rattle.dns_records.specs.Record.{Record, record_text}
use Rattle.dns_messages.specs.Printed.{record_lines}
use Rattle.api.proofs.lookups.answer.write_lines.Goals as goal

pub loop-line-preserved : goal.loop-line-preserved
loop-line-preserved g c = λ plain.
    let so_far = c.loop-line.invariant plain in
    let x : Record = c.line-item.result in (
      so_far.0 ++ (record_text x ++ 10 ∷ []),
      has_written_append _ _ _ _ _ _ so_far.1 (search rules),
      further (λ (r : Record). record_text r ++ 10 ∷ []) record_lines (λ x more. refl) c.args.records.now c.loop-line.line-index x _ so_far.0 _ c.line-item.is c.loop-line-test.true so_far.2,
    )
