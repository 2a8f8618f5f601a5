use Rattle.std.proofs.Common.{Ok, take, flat_map}
use Rattle.dns_wire.specs.Encoder.{state_of}
use Rattle.dns_wire.specs.Encodable.{Emits}
use Rattle.dns_data.proofs.wire.emit_items.Given as goal

abbrev pub invariant-loop-item : goal.invariant-loop-item
invariant-loop-item g l = Emits (state_of l.initial.encoder) (flat_map g.T.Item.item_pieces (take l.item-index l.items)) (Ok tt) (state_of l.encoder)
