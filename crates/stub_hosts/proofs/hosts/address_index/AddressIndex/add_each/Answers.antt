use Rattle.std.proofs.Common.{◌∙◌}
use Rattle.stub_hosts.proofs.PointerLaws.{adds_next}
use Rattle.stub_hosts.proofs.hosts.address_index.AddressIndex.add_each.Goals as goal

pub loop-record-preserved : goal.loop-record-preserved
loop-record-preserved c = (
  adds_next c.args.name.now c.args.records.now c.loop-record.record-index c.record-item.result c.loop-record-test.true c.record-item.is
      c.args.self.now c.loop-record.self c.add_record.new.self c.loop-record.invariant.0 c.in_ok-add_record.ensures.ok,
  c.add_record.ensures.added ∙ c.loop-record.invariant.1,
)
