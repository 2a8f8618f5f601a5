-- The rows of a zone, and the record sets that it keeps.
use Rattle.std.specs.Prelude.{◌≡◌, ◌<◌, ◌^◌, length, map, true, false, List, IfSome}
use Rattle.std.specs.List.{AllByRecursion}
use Rattle.std.specs.FinMap as rows_map
use Rattle.dns_wire.specs.codes.RecordType.{type_number, type_of}
use Rattle.dns_wire.specs.declared.codes.record_type.RecordType.TheVariants as types
use Rattle.dns_names.specs.Name.{DomainName}
use Rattle.dns_names.specs.Compare.{at_or_below, same_labels}
use Rattle.dns_data.specs.declared.rdata.RData.{RData}
use Rattle.dns_data.specs.rdata.{data_type, is_update_data, IsSoundData}
use Rattle.dns_records.specs.declared.row.Row.{Row}
use Rattle.dns_records.specs.RecordSet.{RecordSetValue, AreDistinct, record_data}
use Rattle.dns_zone_file.specs.Parsed.{is_singleton_type}
use Rattle.dns_messages.specs.Section.{is_opt_type, is_tsig_type}
pub use Rattle.dns_records.specs.Rows.{Key, key_cmp, Rows, key, rows_at, some_row_below, HasNoEmptySet, row_of, rows_of, set_key}

-- what contracts see of a zone: its origin, and its rows
pub record ZoneContent : Type 0 where
  pub origin : DomainName
  pub rows : Rows

-- ---- record sets

-- the rows of sets: at the key of a set, a row with the TTL and the data of each of its records
abbrev pub rows_of_sets : List RecordSetValue → Rows
rows_of_sets sets = rows_map.from_entries (map (λ s. (set_key s, rows_of s.records)) sets)

-- the zone with this origin and these sets
abbrev pub zone_of : DomainName → List RecordSetValue → ZoneContent
zone_of origin sets = record { origin = origin; rows = rows_of_sets sets }

-- What the data of rows must be to be encoded in a section of a message and decoded again: it is sound, of a type other than
-- OPT and TSIG, and not the absent data of a record of an update.
pub record IsSoundRowData (d : RData) : Type 0 where
  pub sound : IsSoundData d
  pub not_opt : is_opt_type (data_type d) ≡ false
  pub not_tsig : is_tsig_type (data_type d) ≡ false
  pub has_data : is_update_data d ≡ false

-- a TTL of 32 bits, and data that can be encoded and decoded again
pub record IsSoundRow (row : Row) : Type 0 where
  pub ttl_fits : row.ttl < 2 ^ 32
  pub rdata : IsSoundRowData row.rdata

-- the data of a row
abbrev pub row_data : Row → RData
row_data row = row.rdata

-- each row can be encoded and decoded again
abbrev pub AreSoundRows : List Row → Type 0
AreSoundRows rows = AllByRecursion IsSoundRow rows

-- A set that a zone keeps: its owner is fully qualified, its type is the one of its number and that of its data, it has a record,
-- its records can be encoded and decoded again, no two of its data are equal, and a CNAME or SOA record is the only one.
pub record IsSoundSet (s : RecordSetValue) : Type 0 where
  pub fqdn : s.name.is_fqdn ≡ true
  pub type_named : type_of (type_number s.record_type) ≡ s.record_type
  pub filled : 0 < length s.records
  pub rows : AreSoundRows (rows_of s.records)
  pub of_type : AllByRecursion (λ r. data_type r.rdata ≡ s.record_type) s.records
  pub distinct : AreDistinct record_data s.records
  pub single : is_singleton_type s.record_type ≡ true → length s.records ≡ 1

-- sets that a zone keeps
abbrev pub AreSoundSets : List RecordSetValue → Type 0
AreSoundSets sets = AllByRecursion IsSoundSet sets

-- ---- zones

-- The rows at a key of a zone: their owner is at or below the origin, there is at least one, they can be encoded and decoded
-- again, they have the type of the key, no two have equal data, a CNAME or SOA is the only one, and an SOA is at the origin.
pub record AreRowsAt (origin : DomainName) (k : Key) (rows : List Row) : Type 0 where
  pub inside : at_or_below origin.labels k.0 ≡ true
  pub filled : 0 < length rows
  pub sound : AreSoundRows rows
  pub of_type : AllByRecursion (λ row. type_number (data_type row.rdata) ≡ k.1) rows
  pub distinct : AreDistinct row_data rows
  pub single : is_singleton_type (type_of k.1) ≡ true → length rows ≡ 1
  pub soa_at_origin : k.1 ≡ 6 → same_labels origin.labels k.0 ≡ true

-- A zone has a fully qualified origin, with exactly one SOA record (RFC 1034 section 4.2.1), and sound rows at each key.
pub record IsZone (zone : ZoneContent) : Type 0 where
  pub origin_fqdn : zone.origin.is_fqdn ≡ true
  pub soa : length (rows_at zone.rows zone.origin.labels types.SOA) ≡ 1
  pub rows : (k : Key) → IfSome (rows_map.get zone.rows k) (AreRowsAt zone.origin k)
