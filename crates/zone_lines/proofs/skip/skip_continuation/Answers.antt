use Rattle.std.proofs.Common.{rules, sym}
use Rattle.zone_lines.proofs.SkipLaws.{no_line, one_line}
use Rattle.zone_lines.proofs.skip.skip_continuation.Goals as goal

pub loop-base-preserved : goal.loop-base-preserved
loop-base-preserved c = (
  search rules,
  one_line c.args.section.base c.loop-base.base c.in_ok-base.base c.args.section.text.now c.loop-base.rest.now c.split_line.result.1.now
      c.loop-base.invariant.1 (sym c.loop-base-test.ensures) c.in_ok-base.ensures c.split_line.ensures.rest,
)

pub returns-clause-ok : goal.returns-clause-ok
returns-clause-ok c =
    no_line c.args.section.base c.loop-base.base c.args.section.text.now c.loop-base.rest.now c.loop-base.invariant.1 (sym c.loop-base-test.ensures)
