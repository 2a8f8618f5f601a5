use Rattle.std.proofs.Common.{◌≡◌, ◌++◌}
use Rattle.std.specs.List.{AllByRecursion}
use Rattle.dns_wire.specs.Name.{IsLabel}
use Rattle.dns_wire.specs.Writing.{labels_form}
use Rattle.dns_formats.proofs.value.push_labels.Given as goal

-- the labels that are left complete the name
abbrev pub invariant-loop-label : goal.invariant-loop-label
invariant-loop-label l = record {
  each : AllByRecursion IsLabel l.label-iterator;
  completes : l.out.items ++ labels_form l.label-iterator ≡ l.initial.out.items ++ labels_form l.name.labels;
}
