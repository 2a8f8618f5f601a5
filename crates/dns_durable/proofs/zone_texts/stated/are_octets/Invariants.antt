use Rattle.std.proofs.Common.{drop}
use Rattle.std.specs.List.{AllByRecursion}
use Rattle.dns_names.specs.Print.{AreOctets}
use Rattle.dns_durable.proofs.zone_texts.stated.are_octets.Given as goal

-- the strings that were passed are octets
abbrev pub invariant-loop-string : goal.invariant-loop-string
invariant-loop-string l = AllByRecursion AreOctets (drop l.string-index l.strings) → AllByRecursion AreOctets l.strings
