use Rattle.std.proofs.Common.{◌<◌, List, ℕ, Option, length, sym, subst, ◌∙◌, ap}
use Rattle.std.specs.Prelude.{IfSome}
use Rattle.dns_zone.specs.Rows.{ZoneContent}
use Rattle.dns_server.specs.Zones.{closest}
use Rattle.dns_server.proofs.ZoneTableLaws.{closest_within}
use Rattle.dns_server.proofs.zone_table.ZoneTable.closest.Goals as goal

pub returns-clause-within : goal.returns-clause-within
returns-clause-within c =
    subst (λ (o : Option ℕ). IfSome o (λ place. place < length c.args.self.now))
    (sym (c.closest_by.ensures c.self.inside.zones.items c.self.invariant.places c.self.invariant.labels
    ∙ ap (λ (zones : List ZoneContent). closest zones c.args.name.now.labels) c.self.view_is))
    (closest_within c.args.self.now c.args.name.now.labels)
