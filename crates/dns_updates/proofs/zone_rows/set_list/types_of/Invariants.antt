use Rattle.std.proofs.Common.{◌≡◌, take, map}
use Rattle.std.specs.List.{filter}
use Rattle.dns_names.specs.Compare.{same_labels}
use Rattle.dns_records.specs.RecordSet.{RecordSetValue}
use Rattle.dns_updates.proofs.zone_rows.set_list.types_of.Given as goal

abbrev pub invariant-loop-set : goal.invariant-loop-set
invariant-loop-set l = l.found.items ≡ map (λ (s : RecordSetValue). s.record_type) (filter (λ (s : RecordSetValue). same_labels l.owner.labels s.name.labels) (take l.set-index l.sets))
