-- Record sets (RFC 2181 section 5), and how records are added to them and deleted from them. These are the rules of a set by
-- itself: serial numbers are compared as plain numbers, a record with equal data keeps its TTL, and the last NS record stays,
-- whoever owns it. An update of a zone follows RFC 2136 section 3.4.2 instead (`dns_updates`, `Change`). The items of a list
-- may be records, or the rows of a zone: `rdata` is the data of an item.
use Rattle.std.specs.Prelude.{Bool, true, false, not, nat_lt, List, [], ◌∷◌, ◌++◌, ℕ, map, if◌then◌else◌}
use Rattle.std.specs.List.{list_any, IsDistinct}
use Rattle.dns_wire.specs.declared.codes.record_type.RecordType.{RecordType}
use Rattle.dns_wire.specs.declared.codes.record_type.RecordType.TheVariants as types
use Rattle.dns_wire.specs.declared.codes.dns_class.DNSClass.{DNSClass}
use Rattle.dns_names.specs.Name.{DomainName}
use Rattle.dns_data.specs.declared.rdata.RData.{RData}
use Rattle.dns_data.specs.declared.rdata.RData.TheVariants as of
use Rattle.dns_data.specs.rdata.{data_type, same_data}
use Rattle.dns_records.specs.Record.{Record}

-- whether some item has the data
abbrev pub has_data : {A : Type 0} → (A → RData) → List A → RData → Bool
has_data rdata present d = list_any (λ x. same_data (rdata x) d) present

-- no two items have equal data (RFC 2181 section 5)
abbrev pub AreDistinct : {A : Type 0} → (A → RData) → List A → Type 0
AreDistinct rdata present = IsDistinct (λ x y. same_data (rdata x) (rdata y)) present

-- ---- adding

-- whether new data supersedes present data: both are SOA data, and the serial of the new one is the greater number
abbrev pub supersedes : RData → RData → Bool
supersedes (of.SOA new) (of.SOA old) = nat_lt old.serial new.serial
supersedes new old = false

-- Whether data of a type is added: a CNAME always, an SOA if it supersedes the one that is present, and any other if no item
-- has it.
abbrev pub accepts_data : {A : Type 0} → (A → RData) → RecordType → List A → RData → Bool
accepts_data rdata types.CNAME present d = true
accepts_data rdata types.SOA [] d = true
accepts_data rdata types.SOA (old ∷ more) d = supersedes d (rdata old)
accepts_data rdata other present d = not (has_data rdata present d)

-- whether an item of a type is added: its data is
abbrev pub is_addition : {A : Type 0} → (A → RData) → RecordType → List A → A → Bool
is_addition rdata record_type present x = accepts_data rdata record_type present (rdata x)

-- the items with one more of a type: a CNAME or an SOA replaces all, and any other is the last
abbrev pub added : {A : Type 0} → RecordType → List A → A → List A
added types.CNAME present x = x ∷ []
added types.SOA present x = x ∷ []
added other present x = present ++ x ∷ []

-- whether an item is inserted
abbrev pub is_inserted : {A : Type 0} → (A → RData) → List A → A → Bool
is_inserted rdata present x = is_addition rdata (data_type (rdata x)) present x

-- the items after an insertion
abbrev pub inserted : {A : Type 0} → (A → RData) → List A → A → List A
inserted rdata present x =
    if is_inserted rdata present x then added (data_type (rdata x)) present x else present

-- the items with one in place of the first that has equal data, or as the last
abbrev pub put : {A : Type 0} → (A → RData) → List A → A → List A
put rdata [] x = x ∷ []
put rdata (old ∷ more) x = if same_data (rdata old) (rdata x) then x ∷ more else old ∷ put rdata more x

-- ---- deleting

-- whether the items of a type all stay: an SOA, and the last NS
abbrev pub is_protected : {A : Type 0} → RecordType → List A → Bool
is_protected types.SOA present = true
is_protected types.NS (x ∷ y ∷ more) = false
is_protected types.NS present = true
is_protected other present = false

-- the items without the first that has the data
abbrev pub without_data : {A : Type 0} → (A → RData) → List A → RData → List A
without_data rdata [] d = []
without_data rdata (x ∷ more) d =
    if same_data (rdata x) d then more else x ∷ without_data rdata more d

-- whether an item of a type is removed
abbrev pub is_removed : {A : Type 0} → (A → RData) → RecordType → List A → RData → Bool
is_removed rdata record_type present d =
    if is_protected record_type present then false else has_data rdata present d

-- the items after a removal
abbrev pub removed : {A : Type 0} → (A → RData) → RecordType → List A → RData → List A
removed rdata record_type present d =
    if is_protected record_type present then present else without_data rdata present d

-- ---- sets

-- what contracts see of a set
pub record RecordSetValue : Type 0 where
  pub name : DomainName
  pub record_type : RecordType
  pub dns_class : DNSClass
  pub ttl : ℕ
  pub serial : ℕ
  pub records : List Record

-- the data of a record
abbrev pub record_data : Record → RData
record_data r = r.rdata

-- a set without records
abbrev pub empty_set : DomainName → RecordType → DNSClass → ℕ → ℕ → RecordSetValue
empty_set name record_type dns_class ttl serial = record {
  name = name;
  record_type = record_type;
  dns_class = dns_class;
  ttl = ttl;
  serial = serial;
  records = [];
}

-- the record that a set has for data
abbrev pub record_for : RecordSetValue → RData → Record
record_for s d = record { name = s.name; dns_class = s.dns_class; ttl = s.ttl; rdata = d }

-- records with a class, and with a TTL
abbrev pub each_of_class : DNSClass → List Record → List Record
each_of_class dns_class records = map (λ (r : Record). record r { dns_class = dns_class }) records

-- records with a TTL
abbrev pub each_with_ttl : ℕ → List Record → List Record
each_with_ttl ttl records = map (λ (r : Record). record r { ttl = ttl }) records

-- the set with a class for it and each record
abbrev pub with_each_class : RecordSetValue → DNSClass → RecordSetValue
with_each_class s dns_class = record s { dns_class = dns_class; records = each_of_class dns_class s.records }

-- the set with a TTL for it and each record
abbrev pub with_each_ttl : RecordSetValue → ℕ → RecordSetValue
with_each_ttl s ttl = record s { ttl = ttl; records = each_with_ttl ttl s.records }

-- whether a record is inserted in a set
abbrev pub accepts_record : RecordSetValue → Record → Bool
accepts_record s r = is_inserted record_data s.records r

-- The set after the insertion of a record. If it was inserted, the set has its TTL, and the serial of the update.
abbrev pub with_record : RecordSetValue → Record → ℕ → RecordSetValue
with_record s r serial =
    if accepts_record s r
    then record s { ttl = r.ttl; serial = serial; records = inserted record_data s.records r }
    else s

-- whether a record with the data is removed from a set
abbrev pub loses_record : RecordSetValue → RData → Bool
loses_record s d = is_removed record_data s.record_type s.records d

-- The set after the removal of the record with the data. If one was removed, the set has the serial of the update.
abbrev pub without_record : RecordSetValue → RData → ℕ → RecordSetValue
without_record s d serial =
    if loses_record s d
    then record s { serial = serial; records = removed record_data s.record_type s.records d }
    else s
