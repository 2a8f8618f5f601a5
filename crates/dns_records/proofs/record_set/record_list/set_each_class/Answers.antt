use Rattle.std.proofs.Common.{arith}
use Rattle.dns_records.specs.Record.{Record}
use Rattle.dns_records.proofs.ListLaws.{write_each}
use Rattle.dns_records.proofs.record_set.record_list.set_each_class.Goals as goal

pub loop-present-preserved : goal.loop-present-preserved
loop-present-preserved c = write_each (λ (r : Record). record r { dns_class = c.args.dns_class }) c.args.records.now c.loop-present.records c.loop-present.present-index c.present-item.result (omega arith) c.loop-present.invariant c.present-item.is
