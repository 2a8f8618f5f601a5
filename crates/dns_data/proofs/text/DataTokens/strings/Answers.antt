use Rattle.std.proofs.Common.{length, sym}
use Rattle.std.proofs.lemmas.Result.{err_from_is_err_and}
use Rattle.dns_data.proofs.TextLaws.{one_further, stopped, none_taken, taken}
use Rattle.dns_data.proofs.PrintingLaws.{some_of}
use Rattle.dns_data.proofs.text.DataTokens.strings.Goals as goal

pub loop-token-preserved : goal.loop-token-preserved
loop-token-preserved c =
    rw c.in_ok-push.ensures.items
    (one_further c.self.inside.tokens.now c.loop-token.strings.items c.loop-token.token-index _ c.in_ok-string_of_token.field-0 c.loop-token-test.true c.in_ok-string_of_token.ensures c.loop-token.invariant)

pub returns-in_err-string_of_token-clause-refused : goal.returns-in_err-string_of_token-clause-refused
returns-in_err-string_of_token-clause-refused c = λ o.
    let p = err_from_is_err_and c.from_residual.result c.from_residual.ensures.1 in
    rw (p.1, p.2) (λ other. stopped o c.self.inside.tokens.now c.args.self.now c.loop-token.strings.items c.loop-token.token-index _ _ (sym c.self.view_is) c.loop-token-test.true (c.in_err-string_of_token.ensures other) c.loop-token.invariant)

pub returns-clause-ok : goal.returns-clause-ok
returns-clause-ok c = λ o.
    let tokens = c.self.inside.tokens.now in
    taken tokens c.args.self.now _ c.loop-token.strings.items c.loop-token.token-index (sym c.self.view_is) (some_of (length tokens) c.if-is_empty.ensures) c.loop-token-test.false (none_taken tokens _) c.loop-token.invariant
