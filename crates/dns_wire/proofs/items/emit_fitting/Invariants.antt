use Rattle.std.proofs.Common.{◌≡◌, drop}
use Rattle.dns_wire.specs.Encoder.{state_of}
use Rattle.dns_wire.proofs.ItemLaws.{Underway}
use Rattle.dns_wire.proofs.items.emit_fitting.Given as goal

abbrev pub invariant-loop-item : goal.invariant-loop-item
invariant-loop-item g l = record {
  underway : Underway g.T.BinEncodable.pieces (state_of l.fn.encoder) (state_of l.encoder) l.items (drop l.item-index l.items) l.count;
  count_is : l.count ≡ l.item-index;
}
