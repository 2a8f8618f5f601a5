use Rattle.std.proofs.Common.{List, refl, subst, sym}
use Rattle.dns_records.specs.RecordSet.{RecordSetValue}
use Rattle.dns_zone.specs.Lookup.{AreSetsOf}
use Rattle.dns_zone.specs.Rows.{ZoneContent}
use Rattle.dns_zone.proofs.zone.Zone.sets.Goals as goal

pub returns : goal.returns
returns c =
    subst (λ (sets : List RecordSetValue). AreSetsOf c.args.self.now sets) (sym c.iter.ensures)
    (subst (λ (zone : ZoneContent). AreSetsOf zone c.self.inside.sets) c.self.view_is (record {
      origin_fqdn = c.self.invariant.0;
      rows = refl;
      sound = c.self.invariant.1;
      kept = c.self.invariant.2;
      ordered = c.order.ensures;
    }))
