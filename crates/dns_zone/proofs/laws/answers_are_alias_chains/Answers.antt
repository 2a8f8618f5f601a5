use Rattle.dns_zone.proofs.AnswerLaws.{answers_chain}
use Rattle.dns_zone.proofs.laws.answers_are_alias_chains.Goals as goal

pub returns : goal.returns
returns c = answers_chain
