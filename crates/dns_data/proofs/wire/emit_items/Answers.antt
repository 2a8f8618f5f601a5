use Rattle.std.proofs.Common.{take, flat_map}
use Rattle.std.proofs.lemmas.Result.{err_from_is_err_and}
use Rattle.dns_wire.specs.Encoder.{state_of}
use Rattle.dns_data.proofs.EmissionLaws.{emits_end, item_emitted, item_refused}
use Rattle.dns_data.proofs.wire.emit_items.Goals as goal

pub emit_item-requires : goal.emit_item-requires
emit_item-requires g c =
    emits_end (state_of c.args.encoder.now) (state_of c.loop-item.encoder) (flat_map g.T.Item.item_pieces (take c.loop-item.item-index c.args.items.now)) c.requires c.loop-item.invariant

pub returns-in_err-emit_item : goal.returns-in_err-emit_item
returns-in_err-emit_item g c =
    let p = err_from_is_err_and c.from_residual.result c.from_residual.ensures.1 in
    rw (p.1, p.2) (item_refused g.T.Item.item_pieces (state_of c.args.encoder.now) (state_of c.loop-item.encoder) (state_of c.emit_item.new.encoder) c.args.items.now c.loop-item.item-index c.item-item.result c.item-item.result _
    c.item-item.is c.requires c.loop-item-test.true c.loop-item.invariant (λ end. c.in_err-emit_item.ensures))

pub loop-item-preserved : goal.loop-item-preserved
loop-item-preserved g c =
    item_emitted g.T.Item.item_pieces (state_of c.args.encoder.now) (state_of c.loop-item.encoder) (state_of c.emit_item.new.encoder) c.args.items.now c.loop-item.item-index c.item-item.result c.item-item.result
    c.item-item.is c.requires c.loop-item-test.true c.loop-item.invariant (λ end. c.in_ok-emit_item.ensures)
