use Rattle.dns_zone.proofs.AnswerLaws.{answered_directly}
use Rattle.dns_zone.proofs.laws.names_without_alias_are_answered_directly.Goals as goal

pub returns : goal.returns
returns c = answered_directly
