use Rattle.std.proofs.Common.{◌∙◌, List, ap, arith, map, take}
use Rattle.dns_wire.specs.declared.codes.record_type.RecordType.TheVariants as types
use Rattle.dns_records.specs.declared.row.Row.{Row}
use Rattle.dns_zone.specs.Answer.{record_of}
use Rattle.dns_zone.specs.Rows.{rows_at}
use Rattle.dns_authority.proofs.AlikeLaws.{enough, one_more_list}
use Rattle.dns_authority.proofs.asked.sets_of_types.Goals as goal

pub returns-then-len-most : goal.returns-then-len-most
returns-then-len-most c =
    enough (record_of c.args.owner.now) (rows_at c.args.zone.now.rows c.args.source.now.labels) c.args.most c.loop-record_type.record_type-index c.args.types.now c.loop-record_type.records
    (omega (arith, c.if-len-most.true, c.len.ensures)) c.loop-record_type.invariant

pub loop-record_type-preserved : goal.loop-record_type-preserved
loop-record_type-preserved c =
    ap (take c.args.most) c.in_ok-records.ensures
    ∙ one_more_list (record_of c.args.owner.now) (rows_at c.args.zone.now.rows c.args.source.now.labels) c.args.most c.loop-record_type.record_type-index c.args.types.now types.A
    c.loop-record_type.records c.in_ok-first_copies.field-0 (omega arith) c.loop-record_type.invariant
    (c.in_ok-first_copies.ensures ∙ ap (λ (rows : List Row). take c.args.most (map (record_of c.args.owner.now) rows)) c.records_at-stored.ensures.rows)
