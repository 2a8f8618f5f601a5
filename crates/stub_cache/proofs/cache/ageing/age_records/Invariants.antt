use Rattle.std.proofs.Common.{◌≡◌, ◌++◌, map, take, drop}
use Rattle.dns_records.specs.Record.{after_seconds}
use Rattle.stub_cache.proofs.cache.ageing.age_records.Given as goal

-- the records so far are aged
abbrev pub invariant-loop-resource_record : goal.invariant-loop-resource_record
invariant-loop-resource_record l =
    l.records ≡ map (after_seconds l.seconds) (take l.resource_record-index l.initial.records) ++ drop l.resource_record-index l.initial.records
