use Rattle.std.proofs.Common.{map, Err}
use Rattle.std.proofs.lemmas.Result.{IfErr-weaker, on_ok_weaker, err_from_is_err_and}
use Rattle.dns_text.specs.Token.{lexeme}
use Rattle.dns_zone_file.specs.Context.{RefusesRecord}
use Rattle.dns_zone_file.specs.Generate.{AddsLine}
use Rattle.dns_zone_file.specs.declared.error.EntryFault.{EntryFault}
use Rattle.dns_zone_file.specs.internal.Error.{IsFault}
use Rattle.dns_zone_file.proofs.GenerateLaws.{text_fault, line_fault, record_fault, record_added, first_of}
use Rattle.dns_zone_file.proofs.context.Context.add_line.Goals as goal

pub returns-in_err-text-clause-refused : goal.returns-in_err-text-clause-refused
returns-in_err-text-clause-refused c =
    let p = err_from_is_err_and c.from_residual.result c.from_residual.ensures.1 in
    rw (p.1, p.2) (text_fault c.args.self.now c.args.line.now c.in_err-text.field-0.0 c.in_err-text.ensures)

pub returns-in_err-tokens-clause-refused : goal.returns-in_err-tokens-clause-refused
returns-in_err-tokens-clause-refused c =
    let p = err_from_is_err_and c.from_residual-in_err-tokens.result c.from_residual-in_err-tokens.ensures.1 in
    rw (p.1, p.2) (line_fault c.args.self.now c.args.line.now c.in_ok-text.text.now c.in_err-tokens.field-0.0 c.in_ok-text.ensures.1 c.in_ok-text.ensures.0
    c.in_err-tokens.ensures.refused)

pub returns-clause-ok : goal.returns-clause-ok
returns-clause-ok c =
    on_ok_weaker c.add_record.result
    (record_added c.args.self.now c.add_record.new.self c.args.line.now c.in_ok-text.text.now (map lexeme c.as_slice.result.now) c.in_ok-text.ensures.1 c.in_ok-text.ensures.0
    (first_of _ c.in_ok-tokens.tokens.items c.as_slice.result.now c.as_slice.ensures.value c.in_ok-tokens.ensures.ok))
    c.add_record.ensures.ok

pub returns-clause-refused : goal.returns-clause-refused
returns-clause-refused c =
    let before = c.args.self.now in
    let tokens = map lexeme c.as_slice.result.now in
    IfErr-weaker c.add_record.result (IsFault (RefusesRecord before tokens)) (IsFault (λ (refusal : EntryFault). AddsLine before c.args.line.now (Err refusal)))
    (λ e. record_fault before c.args.line.now c.in_ok-text.text.now tokens e c.in_ok-text.ensures.1 c.in_ok-text.ensures.0
    (first_of _ c.in_ok-tokens.tokens.items c.as_slice.result.now c.as_slice.ensures.value c.in_ok-tokens.ensures.ok))
    c.add_record.ensures.refused
