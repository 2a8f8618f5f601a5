use Rattle.std.proofs.Common.{◌≡◌, ◌<◌, List, Some, refl, sym, ap, ◌∙◌, subst, length}
use Rattle.std.specs.Prelude.{slice_get, slice_set}
use Rattle.std.proofs.lemmas.Option.{slice_get_read}
use Rattle.dns_zone.specs.Change.{IsChange}
use Rattle.dns_zone.specs.Rows.{ZoneContent}
use Rattle.dns_zone.specs.Serving.{IsReplyTo, zone_after}
use Rattle.dns_server.specs.declared.server.route.Route.TheVariants as by
use Rattle.dns_server.specs.internal.ZoneTable.{IsTable}
use Rattle.dns_server.specs.Maintaining.{IsRecordableOf}
use Rattle.dns_server.specs.Server.{IsChangeOf, IsReplyBy, zones_by}
use Rattle.dns_server.proofs.MaintainingLaws.{changed-at, recordable-change}
use Rattle.dns_server.proofs.PlaceLaws.{after-at, change-at, if-ok, on-ok, reply-at, served-origin}
use Rattle.dns_server.proofs.ZoneTableLaws.{table_set}
use Rattle.dns_server.proofs.zone_table.ZoneTable.serve_at.Goals as goal
use Rattle.dns_server.proofs.zone_table.ZoneTable.serve_at.Goals.{After-self-1}

found : (c : After-self-1) → slice_get c.self.inside.zones.items c.args.place ≡ Some c.index_mut-zone.result.now
found c =
    slice_get_read c.self.inside.zones.items (length c.self.inside.zones.items) c.args.place c.index_mut-zone.result.now refl
    (subst (λ (xs : List ZoneContent). c.args.place < length xs) (sym c.self.view_is) c.requires.within) c.index_mut-zone.ensures.value

there : (c : After-self-1) → slice_get c.args.self.now c.args.place ≡ Some c.index_mut-zone.result.now
there c = ap (λ (xs : List ZoneContent). slice_get xs c.args.place) (sym c.self.view_is) ∙ found c

same-origin : (c : After-self-1) → c.serve_request.new.self.origin ≡ c.index_mut-zone.result.now.origin
same-origin c =
    served-origin c.serve_request.result c.index_mut-zone.result.now c.serve_request.new.self c.args.request.now c.serve_request.ensures.ok c.serve_request.ensures.err

table : (c : After-self-1) → IsTable (slice_set c.self.inside.zones.items c.args.place c.serve_request.new.self) c.self.inside.places.entries c.self.inside.most_labels
table c =
    table_set c.self.inside.places.entries c.self.inside.most_labels c.self.inside.zones.items c.args.place c.index_mut-zone.result.now c.serve_request.new.self (found c)
    (same-origin c) c.serve_request.ensures.well_formed c.self.invariant

pub invariant_of-self : goal.invariant_of-self
invariant_of-self c = table c

pub returns-clause-servable : goal.returns-clause-servable
returns-clause-servable c = (table c).servable

pub returns-clause-reply : goal.returns-clause-reply
returns-clause-reply c =
    if-ok c.serve_request.result (λ served. IsReplyTo c.index_mut-zone.result.now c.args.transport c.args.request.now served.reply.items)
    (λ served. IsReplyBy c.args.self.now (by.Zone c.args.place) c.args.transport c.args.request.now served.reply.items) c.serve_request.ensures.reply
    (λ served r. reply-at c.args.self.now c.args.place c.index_mut-zone.result.now c.args.transport c.args.request.now served.reply.items (there c) r)

pub returns-clause-ok : goal.returns-clause-ok
returns-clause-ok c =
    on-ok c.serve_request.result (c.serve_request.new.self ≡ zone_after c.index_mut-zone.result.now c.args.request.now)
    (slice_set c.self.inside.zones.items c.args.place c.serve_request.new.self ≡ zones_by c.args.self.now c.args.request.now (by.Zone c.args.place))
    c.serve_request.ensures.ok
    (λ n. ap (λ (xs : List ZoneContent). slice_set xs c.args.place c.serve_request.new.self) c.self.view_is
    ∙ after-at c.args.self.now c.args.place c.index_mut-zone.result.now c.serve_request.new.self c.args.request.now (there c) n)

pub returns-clause-change : goal.returns-clause-change
returns-clause-change c =
    if-ok c.serve_request.result (λ served. IsChange c.index_mut-zone.result.now.rows c.serve_request.new.self.rows served.change)
    (λ served. IsChangeOf c.args.self.now (Some (record { place = c.args.place; difference = served.change })) (slice_set c.self.inside.zones.items c.args.place c.serve_request.new.self))
    c.serve_request.ensures.change
    (λ served is. subst (λ (zs : List ZoneContent). IsChangeOf c.args.self.now (Some (record { place = c.args.place; difference = served.change })) (slice_set zs c.args.place c.serve_request.new.self))
    (sym c.self.view_is)
    (change-at c.args.self.now c.args.place c.index_mut-zone.result.now c.serve_request.new.self served.change (there c) is))

pub returns-clause-recordable : goal.returns-clause-recordable
returns-clause-recordable c =
    if-ok c.serve_request.result (λ served. IsChange c.index_mut-zone.result.now.rows c.serve_request.new.self.rows served.change)
    (λ served. IsRecordableOf c.args.self.now (Some (record { place = c.args.place; difference = served.change })) (slice_set c.self.inside.zones.items c.args.place c.serve_request.new.self))
    c.serve_request.ensures.change
    (λ served is. subst (λ (zs : List ZoneContent). IsRecordableOf c.args.self.now (Some (record { place = c.args.place; difference = served.change })) (slice_set zs c.args.place c.serve_request.new.self))
    (sym c.self.view_is)
    (changed-at c.args.self.now c.args.place c.index_mut-zone.result.now c.serve_request.new.self served.change (there c) (same-origin c)
    (recordable-change c.index_mut-zone.result.now.rows c.serve_request.new.self.rows served.change is)))
