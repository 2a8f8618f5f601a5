use Rattle.std.proofs.Common.{rules, subst, sym}
use Rattle.std.proofs.lemmas.Result.{IfOk-weaker}
use Rattle.zone_lines.specs.Reading.{AddsNumber, AddsText, bad_text, of_text}
use Rattle.zone_lines.specs.declared.record_line.EntryLine.{EntryLine}
use Rattle.zone_lines.specs.declared.record_line.EntryLine.TheVariants as kind
use Rattle.zone_lines.specs.declared.record_line.FaultLine.{FaultLine}
use Rattle.zone_lines.proofs.generate.add_number.Goals as goal

pub returns-in-Ok : goal.returns-in-Ok
returns-in-Ok c =
    let before = c.args.context.now in
    let then = c.add_text.new.context in
    IfOk-weaker c.add_text.result (λ (e : EntryLine). AddsText c.args.at c.as_slice.result.now before e then)
    (λ (e : EntryLine). AddsNumber c.args.at c.args.template.now c.args.number before e then)
    (λ e adds. of_text (rw (sym c.as_slice.ensures.value) at c.in-Ok.ensures.ok) adds)
    c.add_text.ensures

pub returns-in-Err : goal.returns-in-Err
returns-in-Err c =
    subst (λ (f : FaultLine). AddsNumber c.args.at c.args.template.now c.args.number c.args.context.now (kind.Fault f) c.args.context.now)
    (sym c.fault_at.ensures) (bad_text (c.in-Err.ensures.refused (search rules)))
