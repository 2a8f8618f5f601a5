use Rattle.std.proofs.Common.{◌∙◌, ap, arith, set}
use Rattle.stub_cache.proofs.ClampingLaws.{write_each}
use Rattle.dns_records.specs.Record.{after_seconds}
use Rattle.stub_cache.proofs.cache.ageing.age_records.Goals as goal

pub loop-resource_record-preserved : goal.loop-resource_record-preserved
loop-resource_record-preserved c =
    ap (set c.loop-resource_record.records c.loop-resource_record.resource_record-index) c.age_record.ensures
    ∙ write_each (after_seconds c.args.seconds) c.args.records.now c.loop-resource_record.records c.loop-resource_record.resource_record-index
    c.resource_record-item.result (omega arith) c.loop-resource_record.invariant c.resource_record-item.is
