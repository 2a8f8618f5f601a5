use Rattle.std.proofs.Common.{sym}
use Rattle.std.proofs.lemmas.Result.{err_from_is_err_and}
use Rattle.dns_formats.proofs.SetLaws.{type_further, type_stops}
use Rattle.dns_formats.proofs.types.type_numbers.Goals as goal

pub loop-token-preserved : goal.loop-token-preserved
loop-token-preserved c =
    rw c.in_ok-push.ensures.items
    (type_further _ c.loop-token.numbers.items c.in_ok-number.number c.args.tokens.now c.loop-token.token-index _ c.loop-token-test.true (sym c.in_ok-number.ensures) c.loop-token.invariant)

pub returns-in_err-number : goal.returns-in_err-number
returns-in_err-number c =
    let p = err_from_is_err_and c.from_residual.result c.from_residual.ensures.1 in
    rw (p.1, p.2) (record {
      ok = tt;
      refused = λ other. type_stops _ c.loop-token.numbers.items _ c.args.tokens.now c.loop-token.token-index _ c.loop-token-test.true (sym c.in_err-number.ensures) c.loop-token.invariant;
    })
