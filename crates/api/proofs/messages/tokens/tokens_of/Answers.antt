use Rattle.std.proofs.Common.{◌∙◌, sym, subst, ap, map, List, Option, Result, Ok, Some, None}
use Rattle.dns_text.specs.Lexer.{LexerState, NextToken}
use Rattle.dns_text.specs.Token.{lexeme, answer}
use Rattle.dns_text.specs.Tokens.{LexesTo}
use Rattle.dns_text.specs.declared.error.LexerError.{LexerError}
use Rattle.dns_text.specs.declared.token.Token.{Token}
use Rattle.dns_text.proofs.ReadingLaws.{each_shortens}
use Rattle.api.specs.messages.Tokens.{FailsToLex}
use Rattle.api.proofs.TokenLaws.{Reads, nothing, all_read, then_fails, pushed}
use Rattle.api.proofs.messages.tokens.tokens_of.Goals as goal

pub loop-token-init : goal.loop-token-init
loop-token-init c =
    subst (λ (read : List Token). Reads c.new-lexer.result (map lexeme read) c.new-lexer.result) (sym c.new-tokens.ensures.items) nothing

pub loop-token-smaller : goal.loop-token-smaller
loop-token-smaller c =
    let next = subst (λ (r : Result (Option Token) LexerError). NextToken c.loop-token.lexer (answer r) c.next_token.new.self)
    (c.in-Ok-Some.is ∙ ap (λ (found : Option Token). Ok found) c.in-Ok-Some.field-0-is) c.next_token.ensures in
    each_shortens c.loop-token.lexer c.next_token.new.self (lexeme c.in-Ok-Some.token) next

pub loop-token-preserved : goal.loop-token-preserved
loop-token-preserved c =
    let next = subst (λ (r : Result (Option Token) LexerError). NextToken c.loop-token.lexer (answer r) c.next_token.new.self)
    (c.in-Ok-Some.is ∙ ap (λ (found : Option Token). Ok found) c.in-Ok-Some.field-0-is) c.next_token.ensures in
    pushed c.loop-token.tokens.items c.push.new.self.items c.in-Ok-Some.token c.loop-token.invariant next c.in_ok-push-in-Ok-Some.ensures.items

pub returns-in-Ok-None-clause-tokens : goal.returns-in-Ok-None-clause-tokens
returns-in-Ok-None-clause-tokens c =
    let last = subst (λ (r : Result (Option Token) LexerError). NextToken c.loop-token.lexer (answer r) c.next_token.new.self)
    (c.in-Ok-None.is ∙ ap (λ (found : Option Token). Ok found) c.in-Ok-None.field-0-is) c.next_token.ensures in
    (c.next_token.new.self, subst (λ (p : LexerState). LexesTo p (map lexeme c.loop-token.tokens.items) c.next_token.new.self) c.new-lexer.ensures (all_read c.loop-token.invariant last))

pub returns-in-Err-clause-refused : goal.returns-in-Err-clause-refused
returns-in-Err-clause-refused c =
    (c.in-Err.field-0, subst (λ (p : LexerState). FailsToLex p c.in-Err.field-0) c.new-lexer.ensures (then_fails c.loop-token.invariant c.in-Err.ensures))
