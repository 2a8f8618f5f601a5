use Rattle.dns_zone.proofs.UpdatedLaws.{zone_kept}
use Rattle.dns_zone.proofs.laws.updates_keep_zones_well_formed.Goals as goal

pub returns : goal.returns
returns c = λ zone m h sound ok. zone_kept zone m h sound ok
