use Rattle.std.proofs.Common.{rules, Ok, Err}
use Rattle.std.proofs.lemmas.Result.{IfErr-weaker, on_ok_weaker}
use Rattle.dns_zone_file.specs.Generate.{AddsLine, AddsNumber, bad_text}
use Rattle.dns_zone_file.specs.declared.error.EntryFault.{EntryFault}
use Rattle.dns_zone_file.specs.internal.Error.{IsFault}
use Rattle.dns_zone_file.proofs.GenerateLaws.{line_added, number_fault}
use Rattle.dns_zone_file.proofs.context.Context.add_number.Goals as goal

pub returns-in-Ok-clause-ok : goal.returns-in-Ok-clause-ok
returns-in-Ok-clause-ok c =
    on_ok_weaker c.add_line.result
    (line_added c.args.self.now c.args.template.now c.args.number c.in-Ok.line.items c.as_slice.result.now c.in-Ok.ensures.ok c.as_slice.ensures.value (Ok c.add_line.new.self))
    c.add_line.ensures.ok

pub returns-in-Ok-clause-refused : goal.returns-in-Ok-clause-refused
returns-in-Ok-clause-refused c =
    IfErr-weaker c.add_line.result (IsFault (λ (refusal : EntryFault). AddsLine c.args.self.now c.as_slice.result.now (Err refusal)))
    (IsFault (λ (refusal : EntryFault). AddsNumber c.args.self.now c.args.template.now c.args.number (Err refusal)))
    (number_fault c.args.self.now c.args.template.now c.args.number c.in-Ok.line.items c.as_slice.result.now c.in-Ok.ensures.ok c.as_slice.ensures.value)
    c.add_line.ensures.refused

pub returns-in-Err-clause-refused : goal.returns-in-Err-clause-refused
returns-in-Err-clause-refused c = bad_text (c.in-Err.ensures.refused (search rules))
