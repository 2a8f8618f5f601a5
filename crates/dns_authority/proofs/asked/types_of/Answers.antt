use Rattle.dns_authority.proofs.TypesLaws.{all_types}
use Rattle.dns_authority.proofs.asked.types_of.Goals as goal

pub returns : goal.returns
returns c = all_types c.type_number_round_trips.ensures c.args.source.now.labels c.args.zone.now c.types_at.result c.types_at.ensures
