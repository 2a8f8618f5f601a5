use Rattle.std.proofs.Common.{◌∙◌, sym, arith}
use Rattle.dns_authority.proofs.WholeSetsLaws.{start_before, start_here}
use Rattle.dns_authority.proofs.replies.whole_sets.set_start.Goals as goal

pub loop-start-preserved : goal.loop-start-preserved
loop-start-preserved c = (
  omega (arith, c.loop-start.invariant.0),
  sym (start_before c.args.records.now c.loop-start.start (sym c.continues_set.ensures.value ∙ c.loop-start-test.true)) ∙ c.loop-start.invariant.1,
)

pub returns-clause-value : goal.returns-clause-value
returns-clause-value c =
    sym (start_here c.args.records.now c.loop-start.start (sym c.continues_set.ensures.value ∙ c.loop-start-test.false)) ∙ c.loop-start.invariant.1
