use Rattle.std.proofs.Common.{◌∙◌, List, map, sym, ap}
use Rattle.dns_wire.specs.declared.codes.record_type.RecordType.TheVariants as types
use Rattle.dns_names.specs.Name.{DomainName}
use Rattle.dns_records.specs.Record.{Record}
use Rattle.dns_zone.specs.Answer.{record_of}
use Rattle.dns_zone.specs.Rows.{rows_at}
use Rattle.dns_transfers.specs.incremental.DifferenceRecords.{incremental_records}
use Rattle.dns_transfers.proofs.SourceLaws.{stored_soa}
use Rattle.dns_transfers.proofs.incremental.messages.records_of.Goals as goal

pub returns : goal.returns
returns c =
    c.new.ensures
    ∙ ap (λ (l : List Record). incremental_records l c.args.differences.now)
    (sym (stored_soa c.origin-origin.result.now c.records_at-soa.result.now)
    ∙ ap (map (record_of c.origin-origin.result.now)) c.records_at-soa.ensures.rows
    ∙ ap (λ (o : DomainName). map (record_of o) (rows_at c.args.zone.now.rows o.labels types.SOA)) c.origin-origin.ensures.origin)
