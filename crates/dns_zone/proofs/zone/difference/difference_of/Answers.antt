use Rattle.dns_zone.specs.Rows.{rows_of_sets}
use Rattle.dns_zone.specs.internal.Change.{records_added, records_deleted}
use Rattle.dns_zone.proofs.RowIndexLaws.{flat_more}
use Rattle.dns_zone.proofs.zone.difference.difference_of.Goals as goal

pub loop-set-preserved : goal.loop-set-preserved
loop-set-preserved c = record {
  deleted = flat_more (records_deleted (rows_of_sets c.args.sets.now)) c.args.changed.now c.loop-set.set-index c.set-item.result c.loop-set.deleted.items c.push_set.new.deleted.items
      c.loop-set-test.true c.set-item.is c.loop-set.invariant.deleted c.in_ok-push_set.ensures.deleted;
  added = flat_more (records_added (rows_of_sets c.args.sets.now)) c.args.changed.now c.loop-set.set-index c.set-item.result c.loop-set.added.items c.push_set.new.added.items
      c.loop-set-test.true c.set-item.is c.loop-set.invariant.added c.in_ok-push_set.ensures.added;
}
