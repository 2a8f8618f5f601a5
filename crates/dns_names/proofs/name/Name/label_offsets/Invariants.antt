use Rattle.std.proofs.Common.{◌≡◌, ◌<◌, ℕ, get_or, length, take}
use Rattle.dns_wire.specs.Writing.{labels_form}
use Rattle.dns_names.proofs.name.Name.label_offsets.Given as goal

-- the offset of the next label, and those of the labels before it
abbrev pub invariant-loop-index : goal.invariant-loop-index
invariant-loop-index l = record {
  many : length l.offsets ≡ 127;
  next : l.offset ≡ length (labels_form (take l.index l.self.labels));
  all : (i : ℕ) → i < l.index → get_or l.offsets i 0 ≡ length (labels_form (take i l.self.labels));
}
