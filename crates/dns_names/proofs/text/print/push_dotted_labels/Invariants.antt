use Rattle.std.proofs.Common.{◌≡◌, ◌++◌, drop, string_bytes}
use Rattle.std.specs.List.{AllByRecursion}
use Rattle.dns_names.specs.Print.{AreOctets, dotted_labels}
use Rattle.dns_names.proofs.text.print.push_dotted_labels.Given as goal

-- the labels that are left complete the text, and if theirs are octets, so are all
abbrev pub invariant-loop-index : goal.invariant-loop-index
invariant-loop-index l =
    (string_bytes l.text ++ dotted_labels (drop l.index l.name.labels) ≡ string_bytes l.initial.text ++ dotted_labels (drop 1 l.name.labels))
    × (AllByRecursion AreOctets (drop l.index l.name.labels) → AllByRecursion AreOctets (drop 1 l.name.labels))
