use Rattle.std.proofs.Common.{◌≡◌, ◌++◌, take, drop}
use Rattle.dns_records.specs.RecordSet.{each_of_class}
use Rattle.dns_records.proofs.record_set.record_list.set_each_class.Given as goal

abbrev pub invariant-loop-present : goal.invariant-loop-present
invariant-loop-present l = l.records ≡ each_of_class l.dns_class (take l.present-index l.initial.records) ++ drop l.present-index l.initial.records
