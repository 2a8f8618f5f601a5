use Rattle.std.proofs.Common.{arith, sym, ◌∙◌}
use Rattle.dns_sockets.proofs.StreamTableLaws.{found_at, left, none_yet, of_all, taken}
use Rattle.dns_sockets.proofs.stream_table.least_active.Goals as goal
use Rattle.dns_sockets.proofs.stream_table.least_active.Goals.{then-is_less_active, else-is_less_active}

pub loop-index-init : goal.loop-index-init
loop-index-init c = record { within = omega arith; least = none_yet c.args.slots.now }

pub loop-index-preserved : goal.loop-index-preserved
loop-index-preserved c =
    let inv = c.loop-index.invariant in
    let slots = c.args.slots.now in
    let at_index = found_at slots c.loop-index.index c.index-slots-index.result (omega arith) c.index-slots-index.is in
    let at_least = found_at slots c.loop-index.least c.index-slots-least.result (omega (arith, inv.within)) c.index-slots-least.is in
    elim c.if-is_less_active.branch [
      | then-is_less_active w ↦ rw w.least-is (record {
        within = omega arith;
        least = taken slots c.loop-index.least c.loop-index.index c.index-slots-least.result c.index-slots-index.result at_least at_index (sym c.is_less_active.ensures ∙ w.if-is_less_active.true) inv.least;
      })
      | else-is_less_active w ↦ rw w.least-is (record {
        within = omega (arith, inv.within);
        least = left slots c.loop-index.least c.loop-index.index c.index-slots-least.result c.index-slots-index.result at_least at_index (sym c.is_less_active.ensures ∙ w.if-is_less_active.false) inv.least;
      })
    ]

pub returns : goal.returns
returns c = of_all c.args.slots.now c.loop-index.least c.loop-index.index (omega arith) c.loop-index.invariant.least
