use Rattle.std.proofs.Common.{◌∙◌, ap, sym}
use Rattle.std.specs.FinMap as rows_map
use Rattle.dns_records.specs.Rows.{Rows}
use Rattle.dns_updates.specs.Changes.{overlay}
use Rattle.dns_updates.proofs.ListingLaws.{listed_less, on_ok, row_less}
use Rattle.dns_updates.proofs.changes.apply.Goals as goal

pub returns-in-NONE-clause-listed : goal.returns-in-NONE-clause-listed
returns-in-NONE-clause-listed g c =
    let zone : Rows = g.Z.ZoneRows.rows c.args.zone.now in
    let rows : Rows = overlay zone c.args.pending.now.sets in
    on_ok c.delete_row.result
    (λ change. listed_less zone rows (overlay zone c.delete_row.new.sets) c.args.pending.now.types c.requires
    (λ k there. row_less c.args.origin.now rows c.args.update.now k (ap (λ (r : Rows). rows_map.contains_key r k) (sym change) ∙ there)))
    c.delete_row.ensures.change
