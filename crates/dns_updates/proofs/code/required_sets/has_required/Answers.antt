use Rattle.std.proofs.Common.{◌≡◌, sym, ap, ◌∙◌, ◌&&◌, map, List}
use Rattle.std.specs.List.{list_all}
use Rattle.dns_wire.specs.declared.codes.record_type.RecordType.{RecordType}
use Rattle.dns_data.specs.declared.rdata.RData.{RData}
use Rattle.dns_records.specs.Record.{Record}
use Rattle.dns_records.specs.declared.row.Row.{Row}
use Rattle.dns_records.specs.Rows.{rows_at}
use Rattle.dns_updates.specs.Records.{is_among, same_data_set}
use Rattle.dns_updates.specs.Code.{required_data}
use Rattle.dns_updates.proofs.CodeLaws.{data_of_rows}
use Rattle.dns_updates.proofs.code.required_sets.has_required.Goals as goal

pub returns-then-has_all_required : goal.returns-then-has_all_required
returns-then-has_all_required g c =
    let wanted : List RData = required_data c.args.prerequisites.now c.args.resource_record.now in
    let present : List RData = map (λ (r : Record). r.rdata) c.records-records.result.now in
    let same : present ≡ map (λ (row : Row). row.rdata) (rows_at (g.Z.ZoneRows.rows c.args.zone.now) c.args.resource_record.now.name.labels c.record_type.result) =
    sym (data_of_rows c.records-records.result.now) ∙ ap (map (λ (row : Row). row.rdata)) c.records-records.ensures in
    c.has_only_required.ensures
    ∙ ap (λ b. b && list_all (is_among wanted) present) c.if-has_all_required.ensures
    ∙ ap (same_data_set wanted) same
    ∙ ap (λ (t : RecordType). same_data_set wanted (map (λ (row : Row). row.rdata) (rows_at (g.Z.ZoneRows.rows c.args.zone.now) c.args.resource_record.now.name.labels t))) c.record_type.ensures

pub returns-else-has_all_required : goal.returns-else-has_all_required
returns-else-has_all_required g c =
    let wanted : List RData = required_data c.args.prerequisites.now c.args.resource_record.now in
    let present : List RData = map (λ (r : Record). r.rdata) c.records-records.result.now in
    let same : present ≡ map (λ (row : Row). row.rdata) (rows_at (g.Z.ZoneRows.rows c.args.zone.now) c.args.resource_record.now.name.labels c.record_type.result) =
    sym (data_of_rows c.records-records.result.now) ∙ ap (map (λ (row : Row). row.rdata)) c.records-records.ensures in
    c.if-has_all_required.false
    ∙ ap (λ b. b && list_all (is_among wanted) present) c.if-has_all_required.ensures
    ∙ ap (same_data_set wanted) same
    ∙ ap (λ (t : RecordType). same_data_set wanted (map (λ (row : Row). row.rdata) (rows_at (g.Z.ZoneRows.rows c.args.zone.now) c.args.resource_record.now.name.labels t))) c.record_type.ensures
