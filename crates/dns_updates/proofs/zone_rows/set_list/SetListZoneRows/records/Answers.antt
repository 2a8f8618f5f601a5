use Rattle.std.proofs.Common.{sym, ap, ◌∙◌}
use Rattle.dns_records.specs.Rows.{rows_of, rows_at}
use Rattle.dns_updates.specs.Sets.{rows_of_sets}
use Rattle.dns_updates.proofs.SetLaws.{rows_there, rows_nowhere}
use Rattle.dns_updates.proofs.zone_rows.set_list.SetListZoneRows.records.Goals as goal

pub returns-then-place-sets : goal.returns-then-place-sets
returns-then-place-sets c =
    ap rows_of c.as_slice.ensures
    ∙ sym (rows_there c.as_slice-sets.result.now c.args.owner.now.labels c.args.record_type c.position-place.result c.index-sets-place.result c.position-place.ensures c.if-place-sets.true c.index-sets-place.is)
    ∙ ap (λ sets. rows_at (rows_of_sets sets) c.args.owner.now.labels c.args.record_type) c.as_slice-sets.ensures.value

pub returns : goal.returns
returns c =
    sym (rows_nowhere c.as_slice-sets.result.now c.args.owner.now.labels c.args.record_type c.position-place.result c.position-place.ensures c.if-place-sets.false)
    ∙ ap (λ sets. rows_at (rows_of_sets sets) c.args.owner.now.labels c.args.record_type) c.as_slice-sets.ensures.value
