use Rattle.std.proofs.Common.{◌++◌, ◌∷◌, [], ◌∙◌, ℕ, ap, arith, map}
use Rattle.dns_wire.specs.declared.codes.record_type.RecordType.TheVariants as types
use Rattle.dns_names.specs.Name.{DomainName}
use Rattle.dns_records.specs.Record.{Record}
use Rattle.dns_records.specs.declared.row.Row.{Row}
use Rattle.dns_zone.specs.Answer.{authority_row, record_of}
use Rattle.dns_zone.specs.Rows.{rows_at}
use Rattle.dns_authority.proofs.CopyLaws.{all_copies, one_more_copy, soa_of, soas_are}
use Rattle.dns_authority.proofs.copies.soa_copies.Goals as goal

pub loop-soa-preserved : goal.loop-soa-preserved
loop-soa-preserved c =
    c.in_ok-push.ensures.ok
    ∙ ap (λ (r : Record). c.loop-soa.copies ++ r ∷ [])
    (c.in_ok-copy_with.ensures ∙ ap (λ (ttl : ℕ). record_of c.origin-origin.result.now (record { ttl = ttl; rdata = c.soa-item.result.rdata })) c.negative_ttl.ensures)
    ∙ one_more_copy (soa_of c.origin-origin.result.now) c.records_at-soa-items.result.now c.loop-soa.soa-index c.soa-item.result c.loop-soa.copies (omega arith) c.soa-item.is c.loop-soa.invariant

pub returns : goal.returns
returns c =
    all_copies (soa_of c.origin-origin.result.now) c.records_at-soa-items.result.now c.loop-soa.soa-index c.loop-soa.copies (omega arith) c.loop-soa.invariant
    ∙ soas_are c.origin-origin.result.now c.records_at-soa-items.result.now
    ∙ ap (map (λ (row : Row). record_of c.origin-origin.result.now (authority_row row))) c.records_at-soa-items.ensures.rows
    ∙ ap (λ (o : DomainName). map (λ (row : Row). record_of o (authority_row row)) (rows_at c.args.zone.now.rows o.labels types.SOA)) c.origin-origin.ensures.origin
