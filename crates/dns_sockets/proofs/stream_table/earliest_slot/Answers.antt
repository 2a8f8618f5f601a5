use Rattle.std.proofs.Common.{◌∙◌, ap}
use Rattle.std.specs.Prelude.{min}
use Rattle.dns_sockets.specs.Deadlines.{slot_deadline}
use Rattle.dns_sockets.proofs.DeadlineLaws.{earlier, earliest_whole}
use Rattle.dns_sockets.proofs.stream_table.earliest_slot.Goals as goal

pub loop-slot-preserved : goal.loop-slot-preserved
loop-slot-preserved c =
    c.min-least.ensures ∙ ap (min c.loop-slot.least) (c.slot_deadline.ensures ∙ ap slot_deadline c.slot-item.is)
    ∙ earlier slot_deadline c.args.slots.now c.loop-slot.slot-index c.slot-item.result c.loop-slot.least c.loop-slot-test.true c.loop-slot.invariant

pub returns : goal.returns
returns c = earliest_whole slot_deadline c.args.slots.now c.loop-slot.slot-index c.loop-slot.least c.loop-slot-test.false c.loop-slot.invariant
