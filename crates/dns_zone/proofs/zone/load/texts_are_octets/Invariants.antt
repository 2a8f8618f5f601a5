use Rattle.std.proofs.Common.{drop}
use Rattle.std.specs.List.{AllByRecursion}
use Rattle.dns_names.specs.Print.{AreOctets}
use Rattle.dns_zone_file.specs.internal.Parsing.{includes_view}
use Rattle.dns_zone.proofs.zone.load.texts_are_octets.Given as goal

-- the texts that were passed are octets
abbrev pub invariant-loop-text : goal.invariant-loop-text
invariant-loop-text l =
    AllByRecursion (λ i. AreOctets i.1) (includes_view (drop l.text-index l.includes)) → AllByRecursion (λ i. AreOctets i.1) (includes_view l.includes)
