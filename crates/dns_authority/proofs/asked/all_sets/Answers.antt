use Rattle.std.proofs.Common.{◌≡◌, ◌∙◌, List, ap, map, take, subst}
use Rattle.std.specs.Prelude.{IfOk}
use Rattle.std.specs.List.{flat_map}
use Rattle.dns_records.specs.Record.{Record}
use Rattle.dns_records.specs.declared.row.Row.{Row}
use Rattle.dns_zone.specs.Answer.{record_of}
use Rattle.dns_zone.specs.Rows.{rows_at}
use Rattle.dns_authority.specs.Asked.{any_numbers, rows_by_number}
use Rattle.dns_authority.proofs.AskedLaws.{same_sets}
use Rattle.dns_authority.proofs.asked.all_sets.Goals as goal

pub returns : goal.returns
returns c =
    subst (λ (rows : List Row). IfOk c.sets_of_types.result (λ (records : List Record). take c.args.most records ≡ take c.args.most (map (record_of c.args.owner.now) rows)))
    (ap (flat_map (rows_at c.args.zone.now.rows c.args.source.now.labels)) c.as_slice.ensures.value
    ∙ same_sets (rows_at c.args.zone.now.rows c.args.source.now.labels) (rows_by_number c.args.zone.now.rows c.args.source.now.labels) c.in_ok-types.types.items any_numbers
    c.in_ok-types.ensures)
    c.sets_of_types.ensures
