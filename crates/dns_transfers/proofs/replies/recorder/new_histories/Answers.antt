use Rattle.std.proofs.Common.{arith}
use Rattle.dns_transfers.proofs.RecordedLaws.{next_new}
use Rattle.dns_transfers.proofs.replies.recorder.new_histories.Goals as goal

pub loop-zone-preserved : goal.loop-zone-preserved
loop-zone-preserved c =
    next_new c.args.limits c.args.zones.now c.loop-zone.zone-index c.zone-item.result c.loop-zone.histories.items c.push.new.self.items c.in_ok-new_history.field-0 (omega arith)
    c.zone-item.is c.loop-zone.invariant c.in_ok-new_history.ensures c.in_ok-push.ensures.items
