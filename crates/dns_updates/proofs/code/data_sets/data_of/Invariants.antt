use Rattle.std.proofs.Common.{◌≡◌, map, take}
use Rattle.dns_records.specs.Record.{Record}
use Rattle.dns_updates.specs.internal.Required.{lent}
use Rattle.dns_updates.proofs.code.data_sets.data_of.Given as goal

abbrev pub invariant-loop-resource_record : goal.invariant-loop-resource_record
invariant-loop-resource_record l = lent l.present.items ≡ map (λ (r : Record). r.rdata) (take l.resource_record-index l.records)
