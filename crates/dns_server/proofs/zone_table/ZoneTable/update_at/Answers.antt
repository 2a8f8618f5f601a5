use Rattle.std.proofs.Common.{◌≡◌, ◌<◌, List, Some, refl, sym, ap, ◌∙◌, subst, length}
use Rattle.std.specs.Prelude.{slice_get, slice_set}
use Rattle.std.proofs.lemmas.Option.{slice_get_read}
use Rattle.dns_zone.specs.Rows.{ZoneContent}
use Rattle.dns_zone.specs.Serving.{IsReplyTo}
use Rattle.dns_zone.specs.Maintained.{IsRecordable}
use Rattle.dns_server.specs.declared.server.route.Route.TheVariants as by
use Rattle.dns_server.specs.internal.ZoneTable.{IsTable}
use Rattle.dns_server.specs.Maintaining.{IsRecordableOf, maintained_as, maintained_by}
use Rattle.dns_server.specs.Server.{IsReplyBy}
use Rattle.dns_server.proofs.PlaceLaws.{if-ok, on-ok, reply-at}
use Rattle.dns_server.proofs.ZoneTableLaws.{table_set}
use Rattle.dns_server.proofs.MaintainingLaws.{changed-at, maintained-at, origin-updated}
use Rattle.dns_server.proofs.zone_table.ZoneTable.update_at.Goals as goal
use Rattle.dns_server.proofs.zone_table.ZoneTable.update_at.Goals.{After-self-1}

found : (c : After-self-1) → slice_get c.self.inside.zones.items c.args.place ≡ Some c.index_mut.result.now
found c =
    slice_get_read c.self.inside.zones.items (length c.self.inside.zones.items) c.args.place c.index_mut.result.now refl
    (subst (λ (xs : List ZoneContent). c.args.place < length xs) (sym c.self.view_is) c.requires.within) c.index_mut.ensures.value

there : (c : After-self-1) → slice_get c.args.self.now c.args.place ≡ Some c.index_mut.result.now
there c = ap (λ (xs : List ZoneContent). slice_get xs c.args.place) (sym c.self.view_is) ∙ found c

same-origin : (c : After-self-1) → c.update_and_reply.new.zone.origin ≡ c.index_mut.result.now.origin
same-origin c =
    origin-updated c.update_and_reply.result c.args.serials c.index_mut.result.now c.update_and_reply.new.zone c.args.request.now c.update_and_reply.ensures.ok
    c.update_and_reply.ensures.err

table : (c : After-self-1) → IsTable (slice_set c.self.inside.zones.items c.args.place c.update_and_reply.new.zone) c.self.inside.places.entries c.self.inside.most_labels
table c =
    table_set c.self.inside.places.entries c.self.inside.most_labels c.self.inside.zones.items c.args.place c.index_mut.result.now c.update_and_reply.new.zone (found c)
    (same-origin c) c.update_and_reply.ensures.well_formed c.self.invariant

pub invariant_of-self : goal.invariant_of-self
invariant_of-self c = table c

pub returns-clause-servable : goal.returns-clause-servable
returns-clause-servable c = (table c).servable

pub returns-clause-reply : goal.returns-clause-reply
returns-clause-reply c =
    if-ok c.update_and_reply.result (λ served. IsReplyTo c.index_mut.result.now c.args.transport c.args.request.now served.reply.items)
    (λ served. IsReplyBy c.args.self.now (by.Zone c.args.place) c.args.transport c.args.request.now served.reply.items) c.update_and_reply.ensures.reply
    (λ served r. reply-at c.args.self.now c.args.place c.index_mut.result.now c.args.transport c.args.request.now served.reply.items (there c) r)

pub returns-clause-ok : goal.returns-clause-ok
returns-clause-ok c =
    on-ok c.update_and_reply.result (c.update_and_reply.new.zone ≡ maintained_as c.args.serials c.index_mut.result.now c.args.request.now)
    (slice_set c.self.inside.zones.items c.args.place c.update_and_reply.new.zone ≡ maintained_by c.args.serials c.args.self.now c.args.request.now (by.Zone c.args.place))
    c.update_and_reply.ensures.ok
    (λ n. ap (λ (xs : List ZoneContent). slice_set xs c.args.place c.update_and_reply.new.zone) c.self.view_is
    ∙ maintained-at c.args.serials c.args.self.now c.args.place c.index_mut.result.now c.update_and_reply.new.zone c.args.request.now (there c) n)

pub returns-clause-recordable : goal.returns-clause-recordable
returns-clause-recordable c =
    if-ok c.update_and_reply.result (λ served. IsRecordable c.index_mut.result.now.rows c.update_and_reply.new.zone.rows served.change)
    (λ served. IsRecordableOf c.args.self.now (Some (record { place = c.args.place; difference = served.change })) (slice_set c.self.inside.zones.items c.args.place c.update_and_reply.new.zone))
    c.update_and_reply.ensures.change
    (λ served is. subst (λ (zs : List ZoneContent). IsRecordableOf c.args.self.now (Some (record { place = c.args.place; difference = served.change })) (slice_set zs c.args.place c.update_and_reply.new.zone))
    (sym c.self.view_is)
    (changed-at c.args.self.now c.args.place c.index_mut.result.now c.update_and_reply.new.zone served.change (there c) (same-origin c) is))
