use Rattle.std.proofs.Common.{◌≡◌, ◌<◌, ◌∙◌, sym, ap, subst, arith, length, map, List, Option, Ok, Some, None}
use Rattle.std.proofs.lemmas.Bool.Decides.{nat_tests}
use Rattle.std.proofs.lemmas.Result.{err_from_is_err_and}
use Rattle.dns_text.specs.Lexer.{NextToken}
use Rattle.dns_text.specs.Token.{lexeme, answer}
use Rattle.dns_text.specs.declared.token.Token.{Token}
use Rattle.dns_text.proofs.ReadingLaws.{each_shortens}
use Rattle.dns_zone_file.specs.Entry.{at_fault}
use Rattle.dns_zone_file.proofs.EntryLaws.{ReadsTokens, no_token, refuses, none_read, by_line_end, by_text_end, shorter_by_line, shorter_by_end, push_token, no_lexeme, some_lexeme}
use Rattle.dns_zone_file.proofs.entry.next_entry.Goals as goal

pub loop-tokens-init : goal.loop-tokens-init
loop-tokens-init c =
    subst (λ (read : List Token). ReadsTokens c.args.lexer.now (map lexeme read) c.args.lexer.now) (sym c.new-tokens.ensures.items) no_token

pub returns-in_err-next_token-clause-refused : goal.returns-in_err-next_token-clause-refused
returns-in_err-next_token-clause-refused c =
    let p = err_from_is_err_and c.from_residual.result c.from_residual.ensures.1 in
    rw (p.1, p.2) (λ _. refuses c.loop-tokens.invariant (at_fault c.in_err-next_token.ensures))

pub returns-in-None-clause-end : goal.returns-in-None-clause-end
returns-in-None-clause-end c =
    let empty : length c.loop-tokens.tokens.items ≡ 0 = grind (arith, nat_tests, c.if-is_empty.ensures) in
    let next = subst (λ (found : Option Token). NextToken c.loop-tokens.lexer (answer (Ok found)) c.next_token.new.self) c.in-None.is c.in_ok-next_token.ensures in
    λ _. subst (λ p. NextToken p (Ok None) c.next_token.new.self) (none_read c.loop-tokens.invariant (no_lexeme c.loop-tokens.tokens.items empty)) next

pub returns-in-None-2-clause-entry : goal.returns-in-None-2-clause-entry
returns-in-None-2-clause-entry c =
    let some : 0 < length c.loop-tokens.tokens.items = grind (arith, nat_tests, c.if-is_empty.ensures) in
    let next = subst (λ (found : Option Token). NextToken c.loop-tokens.lexer (answer (Ok found)) c.next_token.new.self) c.in-None-2.is c.in_ok-next_token.ensures in
    by_text_end c.loop-tokens.invariant next (some_lexeme c.loop-tokens.tokens.items some)

pub returns-in-None-2-clause-shorter : goal.returns-in-None-2-clause-shorter
returns-in-None-2-clause-shorter c =
    let some : 0 < length c.loop-tokens.tokens.items = grind (arith, nat_tests, c.if-is_empty.ensures) in
    let next = subst (λ (found : Option Token). NextToken c.loop-tokens.lexer (answer (Ok found)) c.next_token.new.self) c.in-None-2.is c.in_ok-next_token.ensures in
    shorter_by_end c.loop-tokens.invariant next (some_lexeme c.loop-tokens.tokens.items some)

pub returns-in-EOL-clause-entry : goal.returns-in-EOL-clause-entry
returns-in-EOL-clause-entry c =
    let next = subst (λ (found : Option Token). NextToken c.loop-tokens.lexer (answer (Ok found)) c.next_token.new.self) (c.in-Some.is ∙ ap (λ (t : Token). Some t) c.in-EOL.is) c.in_ok-next_token.ensures in
    by_line_end c.loop-tokens.invariant next

pub returns-in-EOL-clause-shorter : goal.returns-in-EOL-clause-shorter
returns-in-EOL-clause-shorter c =
    let next = subst (λ (found : Option Token). NextToken c.loop-tokens.lexer (answer (Ok found)) c.next_token.new.self) c.in-Some.is c.in_ok-next_token.ensures in
    shorter_by_line (lexeme c.in-Some.token) c.loop-tokens.invariant next

pub loop-tokens-smaller : goal.loop-tokens-smaller
loop-tokens-smaller c =
    let next = subst (λ (found : Option Token). NextToken c.loop-tokens.lexer (answer (Ok found)) c.next_token.new.self) c.in-Some.is c.in_ok-next_token.ensures in
    each_shortens c.loop-tokens.lexer c.next_token.new.self (lexeme c.in-Some.token) next

pub loop-tokens-preserved : goal.loop-tokens-preserved
loop-tokens-preserved c =
    let next = subst (λ (found : Option Token). NextToken c.loop-tokens.lexer (answer (Ok found)) c.next_token.new.self) c.in-Some.is c.in_ok-next_token.ensures in
    push_token c.loop-tokens.tokens.items c.push.new.self.items c.in-Some.token c.loop-tokens.invariant next c.in_default.not-EOL c.in_ok-push-in_default.ensures.items
