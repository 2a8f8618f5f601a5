use Rattle.std.proofs.Common.{◌≡◌, take}
use Rattle.dns_records.specs.RecordSet.{each_with_ttl}
use Rattle.dns_updates.proofs.builders.required.Given as goal

abbrev pub invariant-loop-resource_record : goal.invariant-loop-resource_record
invariant-loop-resource_record l = l.section ≡ each_with_ttl 0 (take l.resource_record-index l.records)
