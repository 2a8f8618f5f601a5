use Rattle.std.proofs.Common.{◌∙◌, ap, sym, arith}
use Rattle.dns_sockets.specs.StreamTable.{has_transfer}
use Rattle.dns_sockets.proofs.StreamTableLaws.{none_more, one_more}
use Rattle.dns_sockets.proofs.stream_table.count_transfers.Goals as goal
use Rattle.dns_sockets.proofs.stream_table.count_transfers.Goals.{then-has_transfer, else-has_transfer}

pub loop-slot-preserved : goal.loop-slot-preserved
loop-slot-preserved c =
    let seen = c.has_transfer.ensures ∙ ap has_transfer c.slot-item.is in
    elim c.if-has_transfer.branch [
      | then-has_transfer w ↦ (w.count-is ∙ one_more c.args.slots.now c.loop-slot.slot-index c.loop-slot.count c.slot-item.result c.loop-slot-test.true c.loop-slot.invariant.0 (sym w.if-has_transfer.true ∙ seen), omega arith)
      | else-has_transfer w ↦ (w.count-is ∙ none_more c.args.slots.now c.loop-slot.slot-index c.loop-slot.count c.slot-item.result c.loop-slot-test.true c.loop-slot.invariant.0 (sym w.if-has_transfer.false ∙ seen), omega arith)
    ]
