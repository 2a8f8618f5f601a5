use Rattle.dns_authority.proofs.PlainLaws.{plain_zones}
use Rattle.dns_authority.proofs.laws.plain_zones_answer_alike.Goals as goal

pub returns : goal.returns
returns c = plain_zones
