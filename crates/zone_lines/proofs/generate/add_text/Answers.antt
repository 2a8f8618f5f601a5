use Rattle.std.proofs.Common.{map, refl, ap, ◌∙◌}
use Rattle.std.proofs.lemmas.Result.{IfOk-weaker}
use Rattle.dns_text.specs.declared.quotes.Quotes.{Quotes}
use Rattle.dns_text.specs.Lexer.{start_with}
use Rattle.dns_text.specs.Token.{lexeme}
use Rattle.zone_lines.specs.Reading.{AddsEntry, AddsText}
use Rattle.zone_lines.specs.declared.record_line.EntryLine.{EntryLine}
use Rattle.zone_lines.proofs.GenerateLaws.{text_added, text_breaks, text_ends, text_refused}
use Rattle.zone_lines.proofs.generate.add_text.Goals as goal

pub returns-in-Err : goal.returns-in-Err
returns-in-Err c = text_refused c.args.at c.args.line.now c.args.context.now _ c.in-Err.field-0 c.in-Err.ensures c.no_entry.ensures

pub returns-in-Ok-Some : goal.returns-in-Ok-Some
returns-in-Ok-Some c =
    let lexed = rw c.in-Ok-Some.field-0-is at c.in-Ok-Some.ensures.entry in
    let before = c.args.context.now in
    let then = c.add_entry.new.context in
    IfOk-weaker c.add_entry.result (λ (e : EntryLine). AddsEntry c.args.at (map lexeme c.as_slice.result.now) before e then)
    (λ (e : EntryLine). AddsText c.args.at c.args.line.now before e then)
    (λ e adds. text_added c.args.at c.args.line.now before c.in-Ok.text.now c.in-Ok.ensures.0 c.with_quotes-lexer.result
    (c.with_quotes-lexer.ensures ∙ ap (λ (q : Quotes). start_with q c.in-Ok.text.now) c.quotes.ensures)
    c.in-Ok-Some.tokens.items c.as_slice.result.now c.in-Ok.ensures.1 lexed c.as_slice.ensures.value e then adds)
    c.add_entry.ensures

pub returns-in-Ok-None : goal.returns-in-Ok-None
returns-in-Ok-None c =
    let end = rw c.in-Ok-None.field-0-is at c.in-Ok-None.ensures.end in
    text_ends c.args.at c.args.line.now c.args.context.now c.in-Ok.text.now c.in-Ok.ensures.0 c.with_quotes-lexer.result
    (c.with_quotes-lexer.ensures ∙ ap (λ (q : Quotes). start_with q c.in-Ok.text.now) c.quotes.ensures) _ (end refl) c.no_entry-in-Ok-None.ensures

pub returns-in-Err-Lexer : goal.returns-in-Err-Lexer
returns-in-Err-Lexer c =
    let refused = rw c.in-Err-Lexer.field-0-is at c.in-Err-Lexer.ensures.refused in
    text_breaks c.args.at c.args.line.now c.args.context.now c.in-Ok.text.now c.in-Ok.ensures.0 c.with_quotes-lexer.result
    (c.with_quotes-lexer.ensures ∙ ap (λ (q : Quotes). start_with q c.in-Ok.text.now) c.quotes.ensures) _ _ (refused (λ e. cc)) c.no_entry-in-Err-Lexer.ensures
