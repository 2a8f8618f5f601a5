-- The updates that builders make (RFC 2136 sections 2.4 and 2.5), what each is to change, and for which sets.
use Rattle.std.specs.Prelude.{◌≡◌, ◌≢◌, ◌==◌, ◌&&◌, ◌||◌, ◌++◌, not, map, if◌then◌else◌, Bool, true, false, List, [], ◌∷◌, ℕ, Some, None}
use Rattle.std.specs.List.{filter, fold, AllByRecursion}
use Rattle.std.specs.FinMap as rows_map
use Rattle.dns_wire.specs.codes.RecordType.{type_number}
use Rattle.dns_wire.specs.declared.codes.record_type.RecordType.{RecordType}
use Rattle.dns_wire.specs.declared.codes.record_type.RecordType.TheVariants as types
use Rattle.dns_wire.specs.declared.codes.dns_class.DNSClass.{DNSClass}
use Rattle.dns_wire.specs.declared.codes.dns_class.DNSClass.TheVariants as classes
use Rattle.dns_names.specs.Name.{DomainName}
use Rattle.dns_names.specs.Compare.{same_labels}
use Rattle.dns_data.specs.declared.rdata.RData.{RData}
use Rattle.dns_data.specs.declared.rdata.RData.TheVariants as of
use Rattle.dns_records.specs.declared.row.Row.{Row}
use Rattle.dns_records.specs.Record.{Record}
use Rattle.dns_records.specs.Rows.{Key, Rows, key, rows_at, type_of_record, rows_of, set_key, with_set, HasNoEmptySet}
use Rattle.dns_messages.specs.declared.message_type.MessageType.TheVariants as kinds
use Rattle.dns_messages.specs.declared.op_code.OpCode.TheVariants as ops
use Rattle.dns_messages.specs.declared.header.Metadata.{Metadata}
use Rattle.dns_messages.specs.declared.edns.Edns.{Edns}
use Rattle.dns_messages.specs.declared.query.Query.{Query}
use Rattle.dns_messages.specs.declared.message.Message.{Message}
use Rattle.dns_messages.specs.Header.{new_metadata}
use Rattle.dns_updates.specs.Records.{is_type, is_in_zone, has_data, is_meta_type, has_set, is_among, same_data_set}
use Rattle.dns_updates.specs.Change.{with_row}
use Rattle.dns_records.specs.RecordSet.{RecordSetValue, AreDistinct, record_data, each_of_class, each_with_ttl}

-- ---- messages

-- a request of opcode Update, without flags
abbrev pub update_metadata : ℕ → Metadata
update_metadata id = new_metadata id kinds.Query ops.Update

-- an OPT record with the default payload size
abbrev pub default_edns : Edns
default_edns = record {
  rcode_high = 0;
  version = 0;
  flags = record { dnssec_ok = false; z = 0 };
  max_payload = 1232;
  options = [];
}

-- the zone section: the zone with an origin and a class (RFC 2136 section 2.3)
abbrev pub zone_section : DomainName → DNSClass → List Query
zone_section origin dns_class = record { name = origin; query_type = types.SOA; query_class = dns_class } ∷ []

-- an update with a zone section, prerequisites and updates, which has no additional records (RFC 2136 section 2)
abbrev pub message_of : ℕ → List Query → Bool → List Record → List Record → Message
message_of id zones use_edns prerequisites updates = record {
  metadata = update_metadata id;
  queries = zones;
  answers = prerequisites;
  authorities = updates;
  additionals = [];
  edns = if use_edns then Some default_edns else None;
  signature = None;
}

-- an update of the zone with an origin and a class
abbrev pub update_message : ℕ → DomainName → DNSClass → Bool → List Record → List Record → Message
update_message id origin dns_class use_edns prerequisites updates =
    message_of id (zone_section origin dns_class) use_edns prerequisites updates

-- a record without TTL and data
abbrev pub empty_record : DNSClass → DomainName → RecordType → Record
empty_record dns_class owner t = record { name = owner; dns_class = dns_class; ttl = 0; rdata = of.Update0 t }

-- records as deletions of rows with their data (RFC 2136 section 2.5.4)
abbrev pub as_deletions : List Record → List Record
as_deletions records = each_of_class classes.NONE (each_with_ttl 0 records)

-- ---- the builders

-- a set is added, if the zone has no records of its owner and type (RFC 2136 section 2.4.3)
abbrev pub create_message : ℕ → RecordSetValue → DomainName → Bool → Message
create_message id s origin use_edns =
    update_message id origin s.dns_class use_edns (empty_record classes.NONE s.name s.record_type ∷ []) s.records

-- a set is added; if so asked, only to records of its owner and type (RFC 2136 section 2.4.1)
abbrev pub append_message : ℕ → RecordSetValue → DomainName → Bool → Bool → Message
append_message id s origin must_exist use_edns =
    update_message id origin s.dns_class use_edns
    (if must_exist then empty_record classes.ANY s.name s.record_type ∷ [] else []) s.records

-- a set replaces another, if the zone has exactly the data of that one (RFC 2136 section 2.4.2)
abbrev pub compare_and_swap_message : ℕ → RecordSetValue → RecordSetValue → DomainName → Bool → Message
compare_and_swap_message id current new origin use_edns =
    update_message id origin new.dns_class use_edns
    (each_with_ttl 0 current.records) (as_deletions current.records ++ new.records)

-- the records with the data of a set are deleted (RFC 2136 section 2.5.4)
abbrev pub delete_by_rdata_message : ℕ → RecordSetValue → DomainName → Bool → Message
delete_by_rdata_message id s origin use_edns =
    update_message id origin s.dns_class use_edns [] (as_deletions s.records)

-- the records of a record's owner and type are deleted (RFC 2136 section 2.5.2)
abbrev pub delete_rrset_message : ℕ → Record → DomainName → Bool → Message
delete_rrset_message id r origin use_edns =
    update_message id origin r.dns_class use_edns [] (empty_record classes.ANY r.name (type_of_record r) ∷ [])

-- all records of a name are deleted (RFC 2136 section 2.5.3)
abbrev pub delete_all_message : ℕ → DomainName → DomainName → DNSClass → Bool → Message
delete_all_message id owner origin dns_class use_edns =
    update_message id origin dns_class use_edns [] (empty_record classes.ANY owner types.ANY ∷ [])

-- ---- what they change

-- the data of records, in order
abbrev pub data_of : List Record → List RData
data_of records = map (λ r. r.rdata) records

-- the zone's rows at the place of a set, and whether it has any
abbrev pub present : Rows → RecordSetValue → List Row
present rows s = rows_at rows s.name.labels s.record_type

-- whether the zone has rows of the owner and type of a set
abbrev pub is_present : Rows → RecordSetValue → Bool
is_present rows s = has_set rows s.name s.record_type

-- the zone's rows have the data of a set
abbrev pub is_current : Rows → RecordSetValue → Bool
is_current rows s = same_data_set (data_of s.records) (map (λ row. row.rdata) (present rows s))

-- the set, where the zone has none
abbrev pub created : Rows → RecordSetValue → Rows
created rows s = if is_present rows s then rows else with_set rows (set_key s) (rows_of s.records)

-- each row added, or in place of one with equal data; if so asked, only to a set that the zone has
abbrev pub appended : Rows → RecordSetValue → Bool → Rows
appended rows s must_exist =
    if must_exist && not (is_present rows s) then rows
    else with_set rows (set_key s) (fold with_row (present rows s) (rows_of s.records))

-- the new set in place of the current one, where the zone has the current data
abbrev pub swapped : Rows → RecordSetValue → RecordSetValue → Rows
swapped rows current new =
    if is_current rows current then with_set rows (set_key new) (rows_of new.records) else rows

-- whether a key is that of the SOA or the NS at an origin
abbrev pub is_apex_key : DomainName → Key → Bool
is_apex_key origin k =
    same_labels origin.labels k.0 && ((k.1 == type_number types.SOA) || (k.1 == type_number types.NS))

-- The rows without those of a name, ignoring ASCII case, and of a type: none is left, except SOA and NS at the origin. All
-- others stay.
pub record IsWithoutSet (origin owner : DomainName) (t : RecordType) (old new : Rows) : Type 0 where
  pub apex : is_apex_key origin (key owner.labels t) ≡ true
      → rows_map.get new (key owner.labels t) ≡ rows_map.get old (key owner.labels t)
  pub deleted : is_apex_key origin (key owner.labels t) ≡ false → rows_map.get new (key owner.labels t) ≡ None
  pub others : (k : Key) → k ≢ key owner.labels t → rows_map.get new k ≡ rows_map.get old k

-- The rows without those of a name, ignoring ASCII case: none of any type is left, except SOA and NS at the origin. All
-- others stay.
pub record IsWithoutName (origin owner : DomainName) (old new : Rows) : Type 0 where
  pub apex : (k : Key) → is_apex_key origin k ≡ true → rows_map.get new k ≡ rows_map.get old k
  pub deleted : (k : Key) → same_labels owner.labels k.0 ≡ true → is_apex_key origin k ≡ false
      → rows_map.get new k ≡ None
  pub others : (k : Key) → same_labels owner.labels k.0 ≡ false → rows_map.get new k ≡ rows_map.get old k

-- The rows without those that have data of a set, at its owner and type: the rows there with other data stay, in their
-- order, and so do all other rows. No key is left with an empty set.
pub record IsWithoutRows (s : RecordSetValue) (old new : Rows) : Type 0 where
  pub remaining : present new s ≡ filter (λ row. not (is_among (data_of s.records) row.rdata)) (present old s)
  pub others : (k : Key) → k ≢ set_key s → rows_map.get new k ≡ rows_map.get old k
  pub filled : HasNoEmptySet new

-- ---- for which sets and rows

-- types for which updates have rules of their own, and types that no row has
abbrev pub has_rules : RecordType → Bool
has_rules t = is_type types.CNAME t || (is_type types.SOA t || (is_type types.NS t || is_meta_type t))

-- a record of a set: of its owner, type and class, and with data
pub record IsRecordOf (s : RecordSetValue) (r : Record) : Type 0 where
  pub owner : same_labels r.name.labels s.name.labels ≡ true
  pub of_type : type_of_record r ≡ s.record_type
  pub of_class : r.dns_class ≡ s.dns_class
  pub filled : has_data r ≡ true

-- a set for an update of a zone: in the zone, of class IN, of a type without rules of its own, with the owner's records, of
-- which no two have equal data
pub record IsSetFor (origin : DomainName) (s : RecordSetValue) : Type 0 where
  pub in_zone : is_in_zone origin s.name ≡ true
  pub in_class : s.dns_class ≡ classes.IN
  pub plain : has_rules s.record_type ≡ false
  pub records : AllByRecursion (IsRecordOf s) s.records
  pub distinct : AreDistinct record_data s.records

-- the rows of a zone in which no alias stands at a set's owner
pub record AreRowsFor (s : RecordSetValue) (rows : Rows) : Type 0 where
  pub filled : HasNoEmptySet rows
  pub no_alias : has_set rows s.name types.CNAME ≡ false
