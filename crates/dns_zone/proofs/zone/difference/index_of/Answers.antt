use Rattle.dns_zone.proofs.RowIndexLaws.{entry_more}
use Rattle.dns_zone.proofs.zone.difference.index_of.Goals as goal

pub loop-present-preserved : goal.loop-present-preserved
loop-present-preserved c =
    entry_more c.loop-present.index.keys c.insert.new.index.keys c.args.records.now c.loop-present.present-index c.present-item.result c.loop-present-test.true c.present-item.is
    c.in_ok-insert.ensures c.loop-present.invariant
