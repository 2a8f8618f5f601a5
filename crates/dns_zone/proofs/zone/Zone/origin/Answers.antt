use Rattle.std.proofs.Common.{refl, subst}
use Rattle.dns_zone.specs.Rows.{IsZone, zone_of}
use Rattle.dns_zone.proofs.KeptLaws.{is_zone}
use Rattle.dns_zone.proofs.zone.Zone.origin.Goals as goal

pub returns-clause-well_formed : goal.returns-clause-well_formed
returns-clause-well_formed c =
    subst IsZone c.self.view_is (is_zone (zone_of c.self.inside.origin c.self.inside.sets) c.self.inside.sets refl c.self.invariant.0 c.self.invariant.1 c.self.invariant.2)
