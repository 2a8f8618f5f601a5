use Rattle.std.proofs.Common.{rules, refl, ap, ◌∙◌}
use Rattle.dns_text.specs.declared.quotes.Quotes.{Quotes}
use Rattle.dns_text.specs.Lexer.{start_with}
use Rattle.dns_zone_file.proofs.GenerateLaws.{first_lexed, first_missing, first_refused}
use Rattle.dns_zone_file.proofs.generate.line_tokens.Goals as goal

pub returns-in-Ok-Some-clause-ok : goal.returns-in-Ok-Some-clause-ok
returns-in-Ok-Some-clause-ok c =
    let lexed = rw c.in-Ok-Some.field-0-is at c.in-Ok-Some.ensures.entry in
    first_lexed (c.with_quotes-lexer.ensures ∙ ap (λ (q : Quotes). start_with q c.args.text.now) c.quotes.ensures) lexed

pub returns-in-Ok-None-clause-refused : goal.returns-in-Ok-None-clause-refused
returns-in-Ok-None-clause-refused c =
    let end = rw c.in-Ok-None.field-0-is at c.in-Ok-None.ensures.end in
    first_missing (c.with_quotes-lexer.ensures ∙ ap (λ (q : Quotes). start_with q c.args.text.now) c.quotes.ensures) (end refl)

pub returns-in-Err-clause-refused : goal.returns-in-Err-clause-refused
returns-in-Err-clause-refused c =
    first_refused c.in-Err.field-0 (c.with_quotes-lexer.ensures ∙ ap (λ (q : Quotes). start_with q c.args.text.now) c.quotes.ensures)
    (c.in-Err.ensures.refused (search rules))
