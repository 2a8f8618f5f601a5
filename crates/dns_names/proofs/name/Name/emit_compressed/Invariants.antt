use Rattle.std.proofs.Common.{◌≡◌}
use Rattle.dns_wire.specs.Encoder.{state_of}
use Rattle.dns_names.proofs.SeekLaws.{Seeking}
use Rattle.dns_names.proofs.name.Name.emit_compressed.Given as goal

abbrev pub invariant-loop-index : goal.invariant-loop-index
invariant-loop-index l = record {
  seeking : Seeking (state_of l.fn.encoder) (state_of l.encoder) l.self.labels l.index l.place;
  end_is : l.end ≡ (state_of l.encoder).offset;
}
