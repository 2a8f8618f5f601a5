use Rattle.std.proofs.Common.{refl, subst}
use Rattle.dns_zone.specs.Lookup.{AreSetsOf}
use Rattle.dns_zone.specs.Rows.{ZoneContent}
use Rattle.dns_zone.proofs.zone.Zone.record_set.Goals as goal

pub returns : goal.returns
returns c = (
  c.self.inside.sets,
  (
    subst (λ (zone : ZoneContent). AreSetsOf zone c.self.inside.sets) c.self.view_is (record {
      origin_fqdn = c.self.invariant.0;
      rows = refl;
      sound = c.self.invariant.1;
      kept = c.self.invariant.2;
      ordered = c.order.ensures;
    }),
    c.get.ensures,
  ),
)
