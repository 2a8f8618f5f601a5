use Rattle.std.proofs.Common.{ap, ◌∙◌}
use Rattle.std.proofs.lemmas.Result.{err_from_is_err_and}
use Rattle.dns_text.specs.declared.quotes.Quotes.{Quotes}
use Rattle.dns_text.specs.Lexer.{start_with}
use Rattle.dns_zone_file.proofs.FirstLaws.{first_fault, first_token, first_end}
use Rattle.dns_zone_file.proofs.parser.has_no_token.Goals as goal

pub returns-in_err-_token : goal.returns-in_err-_token
returns-in_err-_token c =
    let p = err_from_is_err_and c.from_residual.result c.from_residual.ensures.1 in
    rw (p.1, p.2) (first_fault _ _ _ _ (c.with_quotes-lexer.ensures ∙ ap (λ (q : Quotes). start_with q c.args.text.now) c.quotes.ensures) c.in_err-_token.ensures)

pub returns-in-Some : goal.returns-in-Some
returns-in-Some c = first_token _ _ _ _ c.in-Some._token (c.with_quotes-lexer.ensures ∙ ap (λ (q : Quotes). start_with q c.args.text.now) c.quotes.ensures) c.in-Some.is c.in_ok-_token.ensures

pub returns-in-None : goal.returns-in-None
returns-in-None c = first_end _ _ _ _ (c.with_quotes-lexer.ensures ∙ ap (λ (q : Quotes). start_with q c.args.text.now) c.quotes.ensures) c.in-None.is c.in_ok-_token.ensures
