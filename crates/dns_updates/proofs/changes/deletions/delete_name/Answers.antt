use Rattle.std.proofs.Common.{◌≡◌, ◌∙◌, ap, true}
use Rattle.std.specs.List.{fold}
use Rattle.dns_wire.specs.declared.codes.record_type.RecordType.{RecordType}
use Rattle.dns_records.specs.Rows.{Rows}
use Rattle.dns_updates.specs.Change.{without_name, without_set}
use Rattle.dns_updates.specs.Changes.{overlay}
use Rattle.dns_updates.specs.declared.changes.owner_types.Listing.{Listing}
use Rattle.dns_updates.proofs.ChangeLaws.{types_deleted}
use Rattle.dns_updates.proofs.ListingLaws.{name_listed}
use Rattle.dns_updates.proofs.changes.deletions.delete_name.Goals as goal

pub returns-clause-change : goal.returns-clause-change
returns-clause-change g c =
    let zone : Rows = g.Z.ZoneRows.rows c.args.zone.now in
    let rows : Rows = overlay zone c.args.pending.now.sets in
    c.in_ok-delete_types.ensures zone
    ∙ ap (fold (λ (left : Rows) (t : RecordType). without_set c.args.origin.now left c.args.owner.now t) rows) c.as_slice.ensures.value
    ∙ types_deleted c.args.origin.now c.args.owner.now rows c.in_ok-types.types.items (c.in_ok-types.ensures.found rows c.requires)

pub returns-clause-listed : goal.returns-clause-listed
returns-clause-listed g c =
    let zone : Rows = g.Z.ZoneRows.rows c.args.zone.now in
    let rows : Rows = overlay zone c.args.pending.now.sets in
    let less : overlay zone c.delete_types.new.sets ≡ without_name c.args.origin.now rows c.args.owner.now =
    c.in_ok-delete_types.ensures zone
    ∙ ap (fold (λ (left : Rows) (t : RecordType). without_set c.args.origin.now left c.args.owner.now t) rows) c.as_slice.ensures.value
    ∙ types_deleted c.args.origin.now c.args.owner.now rows c.in_ok-types.types.items (c.in_ok-types.ensures.found rows c.requires) in
    let l : Listing = record { types = c.keep_types.new.types; is_complete = true } in
    name_listed zone rows (overlay zone c.delete_types.new.sets) c.args.pending.now.types c.take_types.new.types c.put.new.self c.args.origin.now c.args.owner.now c.in_ok-types.types.items l
    c.in_ok-types.ensures.others c.in_ok-put.ensures c.requires less c.keep_types.ensures (c.in_ok-types.ensures.found rows c.requires)
