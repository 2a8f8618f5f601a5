use Rattle.dns_authority.proofs.OriginLaws.{records_come}
use Rattle.dns_authority.proofs.laws.records_come_from_zones.Goals as goal

pub returns : goal.returns
returns c = records_come
