use Rattle.std.proofs.Common.{List, ap, ◌∙◌}
use Rattle.std.specs.Prelude.{is_some}
use Rattle.dns_zone.specs.Rows.{ZoneContent}
use Rattle.dns_server.specs.Zones.{has_origin}
use Rattle.dns_server.proofs.ZoneTableLaws.{has_place}
use Rattle.dns_server.proofs.zone_table.ZoneTable.has_zone.Goals as goal

pub returns : goal.returns
returns c =
    c.is_some.ensures ∙ ap is_some c.place_of.ensures
    ∙ has_place c.self.inside.places.entries c.self.inside.zones.items c.of.result c.args.origin.now.labels c.self.invariant.places c.of.ensures
    ∙ ap (λ (zones : List ZoneContent). has_origin zones c.args.origin.now.labels) c.self.view_is
