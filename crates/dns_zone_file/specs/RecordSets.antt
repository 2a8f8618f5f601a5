-- Record sets by owner and type (RFC 2181 section 5).
use Rattle.std.specs.Prelude.{◌≡◌, ◌+◌, ◌&&◌, ◌==◌, if◌then◌else◌, Bool, not, ℕ, List, [], ◌∷◌, length, find, Option}
use Rattle.std.specs.List.{list_any, AllByRecursion}
use Rattle.dns_wire.specs.codes.RecordType.{type_number, type_of}
use Rattle.dns_wire.specs.declared.codes.record_type.RecordType.{RecordType}
use Rattle.dns_wire.specs.codes.DNSClass.{class_number}
use Rattle.dns_names.specs.Name.{DomainName}
use Rattle.dns_names.specs.Compare.{same_name}
use Rattle.dns_data.specs.rdata.{data_type}
use Rattle.dns_records.specs.Record.{Record}
use Rattle.dns_records.specs.RecordSet.{RecordSetValue, with_record}

-- whether a set has the records of an owner, up to ASCII case, and of a type, by its number
abbrev pub is_set_of : DomainName → RecordType → RecordSetValue → Bool
is_set_of owner record_type s = same_name owner s.name && (type_number record_type == type_number s.record_type)

-- the set that a record is inserted in
abbrev pub is_set_for : Record → RecordSetValue → Bool
is_set_for r s = is_set_of r.name (data_type r.rdata) s

-- the set of an owner and a type
abbrev pub set_of : List RecordSetValue → DomainName → RecordType → Option RecordSetValue
set_of sets owner record_type = find (is_set_of owner record_type) sets

-- a set of one record
abbrev pub single_set : Record → RecordSetValue
single_set r = record {
  name = r.name;
  record_type = data_type r.rdata;
  dns_class = r.dns_class;
  ttl = r.ttl;
  serial = 0;
  records = r ∷ [];
}

-- the sets with one more record: it is inserted in the set of its owner and type, or in a new set, which is the last
abbrev pub inserted_in : List RecordSetValue → Record → List RecordSetValue
inserted_in [] r = single_set r ∷ []
inserted_in (s ∷ more) r = if is_set_for r s then with_record s r 0 ∷ more else s ∷ inserted_in more r

-- the number of records of all sets
abbrev pub records_count : List RecordSetValue → ℕ
records_count [] = 0
records_count (s ∷ sets) = length s.records + records_count sets

-- whether the set of a record's owner and type has another class
abbrev pub has_other_class : List RecordSetValue → Record → Bool
has_other_class sets r = list_any (λ s. is_set_for r s && not (class_number s.dns_class == class_number r.dns_class)) sets

-- each type has the name of its number
abbrev pub IsNamedType : RecordType → Type 0
IsNamedType record_type = type_of (type_number record_type) ≡ record_type

-- the type of each set is the one that its number names
abbrev pub HaveNamedTypes : List RecordSetValue → Type 0
HaveNamedTypes sets = AllByRecursion (λ s. IsNamedType s.record_type) sets
