use Rattle.std.proofs.Common.{◌∙◌, ap, sym}
use Rattle.std.specs.FinMap as rows_map
use Rattle.dns_records.specs.Rows.{Rows}
use Rattle.dns_updates.specs.Changes.{overlay}
use Rattle.dns_updates.proofs.ListingLaws.{listed_less, set_less}
use Rattle.dns_updates.proofs.changes.deletions.delete_sets.Goals as goal

pub returns-clause-listed : goal.returns-clause-listed
returns-clause-listed g c =
    let zone : Rows = g.Z.ZoneRows.rows c.args.zone.now in
    let rows : Rows = overlay zone c.args.pending.now.sets in
    listed_less zone rows (overlay zone c.delete_set.new.sets) c.args.pending.now.types c.requires
    (λ k there. set_less c.args.origin.now rows c.args.update.now.name c.record_type.result k (ap (λ (r : Rows). rows_map.contains_key r k) (sym (c.in_ok-delete_set.ensures.change zone)) ∙ there))
