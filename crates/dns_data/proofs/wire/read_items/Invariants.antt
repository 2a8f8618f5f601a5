use Rattle.std.proofs.Common.{◌≡◌, ◌+◌, ◌-◌}
use Rattle.dns_data.proofs.ItemLaws.{ReadsOn}
use Rattle.dns_data.proofs.wire.read_items.Given as goal

abbrev pub invariant-loop-alloc : goal.invariant-loop-alloc
invariant-loop-alloc g l = record {
  bytes : l.decoder.bytes ≡ l.initial.decoder.bytes;
  start_is : l.start ≡ l.initial.decoder.index;
  so_far : ReadsOn (g.T.Item.ItemAt l.initial.decoder.bytes) (l.initial.decoder.index + l.len) l.initial.decoder.index l.items.items l.decoder.index;
}

abbrev pub decreases-loop-alloc : goal.decreases-loop-alloc
decreases-loop-alloc g l = l.start + l.len - l.decoder.index
