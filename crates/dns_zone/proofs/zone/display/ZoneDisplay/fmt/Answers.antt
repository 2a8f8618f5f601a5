use Rattle.std.proofs.Common.{ℕ, List, refl, subst}
use Rattle.dns_zone.specs.Rows.{ZoneContent}
use Rattle.dns_zone.specs.Printed.{IsZoneText, zone_text}
use Rattle.dns_zone.proofs.zone.display.ZoneDisplay.fmt.Goals as goal

pub returns : goal.returns
returns g c =
    let text : List ℕ = zone_text c.self.inside.origin c.self.inside.sets in (
      text,
      subst (λ (zone : ZoneContent). IsZoneText zone text) c.self.view_is (record {
        sets = c.self.inside.sets;
        origin_fqdn = c.self.invariant.0;
        rows = refl;
        sound = c.self.invariant.1;
        kept = c.self.invariant.2;
        text_is = refl;
      }),
      λ plain ok. c.fmt.ensures.writes plain ok,
    )
