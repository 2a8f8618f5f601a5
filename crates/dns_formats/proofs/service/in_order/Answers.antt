use Rattle.std.proofs.Common.{ap, rules}
use Rattle.std.proofs.lemmas.Result.{err_from_is_err_and}
use Rattle.dns_text.specs.Token.{lexeme}
use Rattle.dns_text.specs.declared.token.Token.{Token}
use Rattle.dns_formats.proofs.ServiceLaws.{parameter_further, parameter_stops, not_a_word}
use Rattle.dns_formats.proofs.service.in_order.Goals as goal

pub loop-left-preserved : goal.loop-left-preserved
loop-left-preserved c =
    rw (c.skip-left.ensures, c.more_tokens.ensures, c.skip-rest.ensures)
    (parameter_further _ c.loop-left.bytes.items c.in_ok-bytes.bytes.items c.in-CharData.text.now c.loop-left.left.now _ (search rules) (ap (λ (t : Token). lexeme t) c.in-CharData.is)
    (rw (← c.skip-rest.ensures, ← c.as_slice.ensures.value) c.in_ok-bytes.ensures.ok) c.loop-left.invariant)

pub returns-in_err-bytes : goal.returns-in_err-bytes
returns-in_err-bytes c =
    let p = err_from_is_err_and c.from_residual.result c.from_residual.ensures.1 in
    rw (p.1, p.2) (record {
      ok = tt;
      refused = λ other. parameter_stops _ c.loop-left.bytes.items _ c.in-CharData.text.now c.loop-left.left.now _ (search rules) (ap (λ (t : Token). lexeme t) c.in-CharData.is) (rw (← c.skip-rest.ensures, ← c.as_slice.ensures.value) (c.in_err-bytes.ensures.refused other)) c.loop-left.invariant;
    })

pub returns-in_default : goal.returns-in_default
returns-in_default c = record {
  ok = tt;
  refused = λ other. not_a_word _ c.loop-left.bytes.items c.loop-left.left.now _ (search rules) c.in_default.not-CharData c.loop-left.invariant;
}
