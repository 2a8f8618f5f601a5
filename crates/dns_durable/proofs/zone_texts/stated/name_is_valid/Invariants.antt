use Rattle.std.specs.List.{AllByRecursion}
use Rattle.dns_names.specs.Print.{AreOctets}
use Rattle.dns_durable.proofs.zone_texts.stated.name_is_valid.Given as goal

-- the labels that were passed are octets
abbrev pub invariant-loop-label : goal.invariant-loop-label
invariant-loop-label l = AllByRecursion AreOctets l.label-iterator → AllByRecursion AreOctets l.name.labels
