use Rattle.std.proofs.Common.{◌≡◌, ◌≤◌, ◌+◌, ◌++◌, length}
use Rattle.std.specs.Prelude.{flat_map}
use Rattle.std.specs.List.{AllByRecursion}
use Rattle.dns_wire.specs.Name.{IsLabel, name_len}
use Rattle.dns_tsig.specs.WireName.{canonical_label}
use Rattle.dns_tsig.proofs.wire_name.canonical_name.Given as goal

-- the labels that are left complete the name, and fit
abbrev pub invariant-loop-label : goal.invariant-loop-label
invariant-loop-label l = record {
  completes : l.bytes.items ++ flat_map canonical_label l.labels ≡ flat_map canonical_label l.name.labels;
  each : AllByRecursion IsLabel l.labels;
  room : length l.bytes.items + name_len l.labels ≤ 255;
}

abbrev pub decreases-loop-label : goal.decreases-loop-label
decreases-loop-label l = length l.labels
