use Rattle.std.proofs.Common.{[], ◌∷◌, ◌++◌, refl, rules}
use Rattle.std.proofs.Output.{has_written_append}
use Rattle.dns_data.proofs.PrintingLaws.{further}
use Rattle.dns_messages.specs.declared.query.Query.{Query}
use Rattle.dns_messages.specs.Question.{question_text}
use Rattle.dns_messages.specs.Printed.{question_lines}
use Rattle.dns_messages.proofs.message.display.write_question_lines.Goals as goal

pub loop-query-preserved : goal.loop-query-preserved
loop-query-preserved g c = λ plain.
    let so_far = c.loop-query.invariant plain in
    let x : Query = c.query-item.result in (
      so_far.0 ++ (59 ∷ question_text x ++ 10 ∷ []),
      has_written_append _ _ _ _ _ _ so_far.1 (search rules),
      further (λ (q : Query). 59 ∷ question_text q ++ 10 ∷ []) question_lines (λ x more. refl) c.args.queries.now c.loop-query.query-index x _ so_far.0 _ c.query-item.is c.loop-query-test.true so_far.2,
    )
