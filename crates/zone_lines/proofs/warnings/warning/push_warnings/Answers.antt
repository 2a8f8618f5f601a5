use Rattle.std.proofs.Common.{arith}
use Rattle.zone_lines.specs.warnings.Survey.{facts_view}
use Rattle.zone_lines.proofs.KindLaws.{all_kinds, kind_pushed}
use Rattle.zone_lines.proofs.warnings.warning.push_warnings.Goals as goal

pub loop-kind-preserved : goal.loop-kind-preserved
loop-kind-preserved c = λ entries surveys.
    kind_pushed (facts_view c.args.facts.now) entries c.args.place c.args.record_line.now _ _ _ _ _ _ _
    c.loop-kind-test.true (c.loop-kind.invariant entries surveys) (c.applies-is_meant.ensures entries surveys (c.in_ok-cuts.ensures entries surveys)) c.in_ok-push_if.ensures

pub returns : goal.returns
returns c = λ entries surveys.
    all_kinds (facts_view c.args.facts.now) entries c.args.place c.args.record_line.now c.loop-kind.kind-index _ _ (omega (arith, c.loop-kind-test.false))
    (c.loop-kind.invariant entries surveys)
