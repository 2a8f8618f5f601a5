use Rattle.std.proofs.Common.{◌∙◌, ◌&&◌, ◌||◌, ap, true}
use Rattle.std.specs.List.{list_any}
use Rattle.dns_records.specs.Rows.{Rows}
use Rattle.dns_updates.specs.Changes.{overlay}
use Rattle.dns_updates.specs.Records.{has_set}
use Rattle.dns_updates.specs.internal.Indexes.{passes}
use Rattle.dns_updates.specs.declared.changes.owner_types.Listing.{Listing}
use Rattle.dns_updates.proofs.ListingLaws.{other_found, put_back, types_left}
use Rattle.dns_updates.proofs.changes.listings.has_current_but.Goals as goal

pub returns-clause-found : goal.returns-clause-found
returns-clause-found g c =
    let rows : Rows = overlay (g.Z.ZoneRows.rows c.args.zone.now) c.args.pending.now.sets in
    c.is_some.ensures
    ∙ other_found rows c.args.owner.now c.args.record_type c.in_ok-types.types.items c.pop_other-other.new.types.items c.pop_other-other.result (c.in_ok-types.ensures.found rows c.requires)
    c.pop_other-other.ensures.left c.pop_other-other.ensures.found c.pop_other-other.ensures.none

pub returns-clause-listed : goal.returns-clause-listed
returns-clause-listed g c =
    let zone : Rows = g.Z.ZoneRows.rows c.args.zone.now in
    let rows : Rows = overlay zone c.args.pending.now.sets in
    let l : Listing = record { types = c.push_current.new.types; is_complete = true } in
    put_back zone rows c.args.pending.now.types c.take_types.new.types c.put.new.self c.args.owner.now.labels l c.in_ok-types.ensures.others c.in_ok-put.ensures c.requires rows
    (types_left rows c.args.owner.now c.args.record_type c.in_ok-types.types.items c.push_current.new.types.items
    (λ p. list_any p c.pop_other-other.new.types.items || passes p c.pop_other-other.result)
    (c.in_ok-types.ensures.found rows c.requires) c.pop_other-other.ensures.left
    (λ p. c.in_ok-push_current.ensures p ∙ ap (λ b. b || (has_set rows c.args.owner.now c.args.record_type && p c.args.record_type)) (c.in_ok-push_some.ensures p)))
    (λ k e. e)
