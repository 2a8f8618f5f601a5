use Rattle.dns_text.proofs.TokenGrammarLaws.{stands, one}
use Rattle.dns_text.proofs.laws.lexing_is_unambiguous.Goals as goal

pub returns : goal.returns
returns c = record { stands = stands; one = one }
