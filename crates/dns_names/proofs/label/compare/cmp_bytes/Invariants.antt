use Rattle.std.proofs.Common.{◌≡◌, ◌≤◌, ◌-◌, length, drop}
use Rattle.std.specs.Cmp.Lexicographic.{slice_cmp}
use Rattle.dns_names.proofs.label.compare.cmp_bytes.Given as goal

-- the bytes before were equal
abbrev pub invariant-loop-index : goal.invariant-loop-index
invariant-loop-index g l = record {
  same : slice_cmp g.F.LabelCmp.byte_order l.own l.other ≡ slice_cmp g.F.LabelCmp.byte_order (drop l.index l.own) (drop l.index l.other);
  within : l.index ≤ length l.own;
  within_other : l.index ≤ length l.other;
}

abbrev pub decreases-loop-index : goal.decreases-loop-index
decreases-loop-index g l = length l.own - l.index
