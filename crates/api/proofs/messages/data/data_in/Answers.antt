use Rattle.std.proofs.Common.{List, ℕ, map, subst, sym}
use Rattle.dns_text.specs.Token.{lexeme}
use Rattle.dns_text.specs.declared.token.Token.{Token}
use Rattle.api.specs.messages.Tokens.{AreTokensOf}
use Rattle.api.proofs.DataLaws.{unread}
use Rattle.api.proofs.messages.data.data_in.Goals as goal

pub returns-clause-refused : goal.returns-clause-refused
returns-clause-refused c =
    let all = subst (λ (t : List ℕ). AreTokensOf t (map lexeme c.in_ok-tokens.tokens.items)) c.in_ok-text.ensures.0 c.in_ok-tokens.ensures.tokens in
    unread c.args.zone.now c.args.record_type c.args.text.now (map lexeme c.as_slice.result.now) c.data_of.result
    (subst (λ (tokens : List Token). AreTokensOf c.args.text.now (map lexeme tokens)) (sym c.as_slice.ensures.value) all) c.data_of.ensures.refused
