use Rattle.std.proofs.Common.{◌∙◌, ap, map}
use Rattle.dns_zone.specs.Rows.{rows_at}
use Rattle.dns_authority.specs.Asked.{any_numbers, rows_by_number}
use Rattle.dns_authority.proofs.AskedLaws.{no_set, set_of_first}
use Rattle.dns_authority.proofs.asked.first_set.Goals as goal

pub returns-in-Some : goal.returns-in-Some
returns-in-Some c =
    c.records_at.ensures.rows
    ∙ set_of_first (rows_at c.args.zone.now.rows c.args.source.now.labels) (rows_by_number c.args.zone.now.rows c.args.source.now.labels) c.as_slice.result.now any_numbers
    (ap (map (rows_at c.args.zone.now.rows c.args.source.now.labels)) c.as_slice.ensures.value ∙ c.in_ok-types.ensures)
    c.in-Some.record_type.now c.in-Some.ensures.value

pub returns : goal.returns
returns c =
    no_set (rows_at c.args.zone.now.rows c.args.source.now.labels) (rows_by_number c.args.zone.now.rows c.args.source.now.labels) c.as_slice.result.now any_numbers
    (ap (map (rows_at c.args.zone.now.rows c.args.source.now.labels)) c.as_slice.ensures.value ∙ c.in_ok-types.ensures) c.in-None.ensures.value
