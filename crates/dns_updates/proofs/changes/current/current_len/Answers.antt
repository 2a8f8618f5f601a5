use Rattle.std.proofs.Common.{sym, ap, ◌∙◌, List, length}
use Rattle.dns_records.specs.declared.row.Row.{Row}
use Rattle.dns_updates.proofs.ChangeLaws.{row_count, rows_found, rows_below}
use Rattle.dns_updates.proofs.changes.current.current_len.Goals as goal

pub returns-in-Some : goal.returns-in-Some
returns-in-Some g c =
    c.len.ensures
    ∙ row_count c.in-Some.set.now.records
    ∙ sym (ap (λ (rows : List Row). length rows) (rows_found (g.Z.ZoneRows.rows c.args.zone.now) c.args.sets.now c.args.owner.now.labels c.args.record_type c.in-Some.set.now (sym c.in-Some.ensures)))

pub returns-in-None : goal.returns-in-None
returns-in-None g c =
    row_count c.records.result.now
    ∙ ap (λ (rows : List Row). length rows) (c.records.ensures
    ∙ sym (rows_below (g.Z.ZoneRows.rows c.args.zone.now) c.args.sets.now c.args.owner.now.labels c.args.record_type (sym c.in-None.ensures)))
