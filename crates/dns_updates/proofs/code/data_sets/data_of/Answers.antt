use Rattle.std.proofs.Common.{refl}
use Rattle.std.specs.Borrow.{Bor}
use Rattle.dns_data.specs.declared.rdata.RData.{RData}
use Rattle.dns_records.specs.Record.{Record}
use Rattle.dns_updates.proofs.DataSetLaws.{mapped_more}
use Rattle.dns_updates.proofs.code.data_sets.data_of.Goals as goal

pub loop-resource_record-preserved : goal.loop-resource_record-preserved
loop-resource_record-preserved c =
    mapped_more (λ (d : Bor RData). d.now) (λ (r : Record). r.rdata) c.loop-resource_record.present.items c.push.new.self.items _ c.args.records.now c.loop-resource_record.resource_record-index c.resource_record-item.result _
    c.loop-resource_record-test.true c.resource_record-item.is c.in_ok-push.ensures.items refl c.loop-resource_record.invariant
