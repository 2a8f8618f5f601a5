use Rattle.std.proofs.Common.{arith}
use Rattle.dns_records.proofs.DataIndexLaws.{next_of_all}
use Rattle.dns_records.proofs.data_index.fill.Goals as goal

pub loop-place-preserved : goal.loop-place-preserved
loop-place-preserved c = next_of_all c.loop-place.positions c.enter.new.positions c.args.records.now c.loop-place.place c.index-records-place.result (omega arith) c.index-records-place.is c.loop-place.invariant c.in_ok-enter.ensures.ok
