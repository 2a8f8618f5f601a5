use Rattle.std.proofs.Common.{◌∙◌, Ok, Err, None, Some, ap}
use Rattle.std.proofs.lemmas.Result.{err_from_is_err_and}
use Rattle.dns_text.specs.internal.Lexer.{step_of}
use Rattle.dns_text.specs.Token.{lexeme}
use Rattle.dns_text.specs.Lexer.{past_nothing, at_token}
use Rattle.dns_text.specs.declared.lexer.Scan.{Scan}
use Rattle.dns_text.proofs.TokenLaws.{on_end, on_fault}
use Rattle.dns_text.proofs.lexer.Lexer.next_token.Goals as goal

pub returns-in_err-scan : goal.returns-in_err-scan
returns-in_err-scan c =
    let p = err_from_is_err_and c.from_residual.result c.from_residual.ensures.1 in
    rw (p.1, p.2) (c.loop-token.invariant (Err c.in_err-scan.field-0.0) c.scan.new.self (on_fault c.loop-token.self c.scan.new.self c.in_err-scan.field-0.0 c.in_err-scan.ensures.steps c.in_err-scan.ensures.stays))

pub loop-token-preserved : goal.loop-token-preserved
loop-token-preserved c =
    λ found end more. c.loop-token.invariant found end
    (past_nothing (c.in_ok-scan.ensures.steps ∙ ap (λ (l : Scan). step_of (Ok l) c.scan.new.self) c.in-Nothing.is) more)

pub returns-in-Found : goal.returns-in-Found
returns-in-Found c =
    c.loop-token.invariant (Ok (Some (lexeme c.in-Found.token))) c.scan.new.self
    (at_token (c.in_ok-scan.ensures.steps ∙ ap (λ (l : Scan). step_of (Ok l) c.scan.new.self) c.in-Found.is))

pub returns-in-AtEnd : goal.returns-in-AtEnd
returns-in-AtEnd c =
    let stays = rw c.in-AtEnd.is at c.in_ok-scan.ensures.stays in
    c.loop-token.invariant (Ok None) c.scan.new.self
    (on_end c.loop-token.self c.scan.new.self (c.in_ok-scan.ensures.steps ∙ ap (λ (l : Scan). step_of (Ok l) c.scan.new.self) c.in-AtEnd.is) stays)
