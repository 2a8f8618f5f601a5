use Rattle.std.proofs.Common.{◌≡◌, length, take}
use Rattle.dns_wire.specs.Writing.{labels_form}
use Rattle.dns_names.proofs.name.Name.offset_of.Given as goal

-- the labels that were passed end at the offset
abbrev pub invariant-loop-passed : goal.invariant-loop-passed
invariant-loop-passed l = l.offset ≡ length (labels_form (take l.passed l.self.labels))
