use Rattle.std.proofs.Common.{◌≡◌, ◌+◌, ◌-◌, drop}
use Rattle.std.specs.Cmp.Lexicographic.{slice_cmp}
use Rattle.dns_wire.specs.Writing.{labels_form}
use Rattle.dns_names.specs.Compare.{labels_order}
use Rattle.dns_names.proofs.ReverseLaws.{from_front}
use Rattle.dns_names.proofs.name.Name.cmp_labels.Given as goal

-- the labels that are left, and the order of those before them
abbrev pub invariant-loop-passed : goal.invariant-loop-passed
invariant-loop-passed g l = record {
  own_form : l.own_rest ≡ labels_form (drop (l.own - l.shared + l._passed) l.self.labels);
  other_form : l.other_rest ≡ labels_form (drop (l.others - l.shared + l._passed) l.other.labels);
  same : labels_order g.F.LabelCmp.byte_order l.self.labels l.other.labels
      ≡ from_front (slice_cmp g.F.LabelCmp.byte_order) l.order (drop (l.own - l.shared + l._passed) l.self.labels) (drop (l.others - l.shared + l._passed) l.other.labels);
}
