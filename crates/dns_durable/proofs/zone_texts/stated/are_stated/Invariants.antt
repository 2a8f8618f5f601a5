use Rattle.std.proofs.Common.{drop}
use Rattle.std.specs.List.{AllByRecursion}
use Rattle.dns_durable.specs.zone_texts.Stated.{IsStatedData}
use Rattle.dns_durable.proofs.zone_texts.stated.are_stated.Given as goal

-- the records that were passed can be stated
abbrev pub invariant-loop-record : goal.invariant-loop-record
invariant-loop-record l = AllByRecursion (λ r. IsStatedData r.rdata) (drop l.record-index l.records) → AllByRecursion (λ r. IsStatedData r.rdata) l.records
