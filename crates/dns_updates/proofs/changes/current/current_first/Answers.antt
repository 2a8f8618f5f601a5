use Rattle.std.proofs.Common.{sym, ap, ◌∙◌, List, option_map, slice_get}
use Rattle.dns_records.specs.declared.row.Row.{Row}
use Rattle.dns_records.specs.Rows.{row_of}
use Rattle.dns_updates.proofs.ChangeLaws.{first_row, rows_found, rows_below}
use Rattle.dns_updates.proofs.changes.current.current_first.Goals as goal

pub returns-in-Some : goal.returns-in-Some
returns-in-Some g c =
    ap (option_map row_of) c.first.ensures
    ∙ first_row c.in-Some.set.now.records
    ∙ sym (ap (λ (rows : List Row). slice_get rows 0) (rows_found (g.Z.ZoneRows.rows c.args.zone.now) c.args.sets.now c.args.owner.now.labels c.args.record_type c.in-Some.set.now (sym c.in-Some.ensures)))

pub returns-in-None : goal.returns-in-None
returns-in-None g c =
    ap (option_map row_of) c.first-in-None.ensures.value
    ∙ first_row c.records.result.now
    ∙ ap (λ (rows : List Row). slice_get rows 0) (c.records.ensures
    ∙ sym (rows_below (g.Z.ZoneRows.rows c.args.zone.now) c.args.sets.now c.args.owner.now.labels c.args.record_type (sym c.in-None.ensures)))
