use Rattle.std.specs.List.{AllByRecursion}
use Rattle.dns_durable.specs.zone_texts.Stated.{IsStated, IsStatedSet}
use Rattle.dns_durable.proofs.zone_texts.stated.is_stated.Given as goal

-- the sets that were passed can be stated
abbrev pub invariant-loop-set : goal.invariant-loop-set
invariant-loop-set l = AllByRecursion IsStatedSet l.set-iterator → IsStated l.zone
