use Rattle.dns_updates.proofs.DataSetLaws.{datum_more}
use Rattle.dns_updates.proofs.code.data_sets.index_of.Goals as goal

pub loop-rdata-preserved : goal.loop-rdata-preserved
loop-rdata-preserved c =
    datum_more c.loop-rdata.index.keys c.insert_datum.new.index.keys c.args.whole.now c.loop-rdata.rdata-index c.rdata-item.result c.loop-rdata-test.true c.rdata-item.is
    c.in_ok-insert_datum.ensures c.loop-rdata.invariant
