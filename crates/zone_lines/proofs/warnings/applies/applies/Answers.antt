use Rattle.std.proofs.Common.{◌&&◌, ◌∙◌, Bool, not, ap, sym}
use Rattle.zone_lines.specs.warnings.Cuts.{is_glue}
use Rattle.zone_lines.specs.warnings.Survey.{facts_view}
use Rattle.zone_lines.specs.warnings.Warning.{applies}
use Rattle.zone_lines.specs.declared.warnings.kind.WarningKind.{WarningKind}
use Rattle.zone_lines.proofs.warnings.applies.applies.Goals as goal

pub returns-then-cuts : goal.returns-then-cuts
returns-then-cuts c = λ entries surveys are.
    ap not (c.is_glue.ensures (facts_view c.args.facts.now) entries surveys)
    ∙ ap (λ (b : Bool). b && not (is_glue entries c.args.record_line.now)) (sym c.if-cuts.true ∙ are.owner)
    ∙ ap (λ (k : WarningKind). applies k (facts_view c.args.facts.now) entries c.args.place c.args.record_line.now) (sym c.in-Occluded.is)
