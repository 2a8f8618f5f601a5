use Rattle.std.proofs.Common.{ap, rules}
use Rattle.dns_text.specs.Token.{lexeme}
use Rattle.dns_text.specs.declared.token.Token.{Token}
use Rattle.dns_fields.proofs.WordLaws.{past_end, word_there, no_word}
use Rattle.dns_fields.proofs.location.angle.word_at.Goals as goal

pub returns-then-place-tokens : goal.returns-then-place-tokens
returns-then-place-tokens c = past_end c.args.place c.args.tokens.now (search rules)

pub returns-in-CharData : goal.returns-in-CharData
returns-in-CharData c = word_there c.args.place c.args.tokens.now _ _ (search rules) (ap (λ (t : Token). lexeme t) c.in-CharData.is)

pub returns-in_default : goal.returns-in_default
returns-in_default c = no_word c.args.place c.args.tokens.now _ (search rules) c.in_default.not-CharData
