use Rattle.std.proofs.Common.{◌≡◌, ◌++◌, ◌∷◌, [], List, false, ap, sym, ◌∙◌, subst, length, max, arith}
use Rattle.dns_names.specs.Name.{DomainName}
use Rattle.dns_updates.specs.Keys.{owner_code}
use Rattle.dns_zone.specs.Rows.{ZoneContent}
use Rattle.dns_server.specs.Zones.{has_origin}
use Rattle.dns_server.specs.internal.ZoneTable.{IsTable}
use Rattle.dns_server.proofs.ZoneTableLaws.{table_added}
use Rattle.dns_server.proofs.zone_table.ZoneTable.add.Goals as goal
use Rattle.dns_server.proofs.zone_table.ZoneTable.add.Goals.{After-self-1}

table : (c : After-self-1) → IsTable c.push_reserved.new.self.items c.insert.new.self.entries c.max-self-inside.result
table c =
    let items : c.push_reserved.new.self.items ≡ c.self.inside.zones.items ++ c.args.zone ∷ [] =
    c.push_reserved.ensures.items ∙ ap (λ (zones : List ZoneContent). zones ++ c.args.zone ∷ []) c.in_ok-reserve.ensures.items in
    let fresh : has_origin c.self.inside.zones.items c.args.zone.origin.labels ≡ false =
    ap (λ (zones : List ZoneContent). has_origin zones c.args.zone.origin.labels) c.self.view_is
    ∙ ap (λ (n : DomainName). has_origin c.args.self.now n.labels) (sym c.origin-origin.ensures.origin) ∙ sym c.has_zone.ensures ∙ c.if-has_zone.false in
    let place : c.len-place.result ≡ length c.self.inside.zones.items = omega (arith, c.len-place.ensures, c.in_ok-reserve.ensures.len) in
    subst (λ (zones : List ZoneContent). IsTable zones c.insert.new.self.entries c.max-self-inside.result) (sym items)
    (table_added c.self.inside.places.entries c.insert.new.self.entries c.self.inside.zones.items c.args.zone c.of-key.result c.len-place.result c.self.inside.most_labels
    c.max-self-inside.result c.self.invariant c.origin-origin.ensures.well_formed fresh (c.of-key.ensures ∙ ap (λ (n : DomainName). owner_code n.labels) c.origin-origin.ensures.origin)
    place c.in_ok-insert.ensures.updates.0
    (c.max-self-inside.ensures ∙ ap (max c.self.inside.most_labels) (c.label_count-count.ensures ∙ ap (λ (n : DomainName). length n.labels) c.origin-origin.ensures.origin)))

pub invariant_of-self-2 : goal.invariant_of-self-2
invariant_of-self-2 c = table c

pub returns-clause-servable : goal.returns-clause-servable
returns-clause-servable c = (table c).servable
