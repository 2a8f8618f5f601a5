use Rattle.std.proofs.Common.{refl, ap}
use Rattle.dns_text.specs.Token.{lexeme}
use Rattle.dns_text.specs.declared.token.Token.{Token}
use Rattle.dns_formats.proofs.ValueLaws.{word_further, word_stops}
use Rattle.dns_formats.proofs.rest.join_words.Goals as goal

pub loop-token-preserved : goal.loop-token-preserved
loop-token-preserved c =
    rw c.in_ok-extend_from_slice.ensures.items
    (word_further _ c.loop-token.words.items c.in-CharData.text.now c.args.tokens.now c.loop-token.token-index _ c.loop-token-test.true (ap (λ (t : Token). lexeme t) c.in-CharData.is) c.loop-token.invariant)

pub returns-in_default : goal.returns-in_default
returns-in_default c = record {
  ok = tt;
  refused = λ other. (word_stops _ c.loop-token.words.items c.args.tokens.now c.loop-token.token-index _ c.loop-token-test.true c.in_default.not-CharData c.loop-token.invariant, refl);
}
