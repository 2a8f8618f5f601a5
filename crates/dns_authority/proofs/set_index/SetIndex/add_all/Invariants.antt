use Rattle.std.proofs.Common.{◌≡◌, ◌||◌, take}
use Rattle.dns_wire.specs.declared.codes.record_type.RecordType.{RecordType}
use Rattle.dns_names.specs.Name.{DomainName}
use Rattle.dns_authority.specs.Additional.{has_set}
use Rattle.dns_authority.specs.SetIndex.{is_indexed}
use Rattle.dns_authority.proofs.set_index.SetIndex.add_all.Given as goal

abbrev pub invariant-loop-resource_record : goal.invariant-loop-resource_record
invariant-loop-resource_record l = (name : DomainName) (t : RecordType)
    → is_indexed l.self name t ≡ (is_indexed l.fn.self name t || has_set (take l.resource_record-index l.records) name t)
