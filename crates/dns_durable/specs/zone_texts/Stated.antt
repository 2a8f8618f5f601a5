-- Records and zones whose texts are read back as a zone file of all types.
use Rattle.std.specs.Prelude.{◌≡◌, ◌<◌, ◌^◌, ℕ, true, false, List, ◌∷◌, ◌++◌, codes, length, IfSome}
use Rattle.std.specs.FinMap as rows_map
use Rattle.std.specs.List.{AllByRecursion}
use Rattle.dns_wire.specs.codes.RecordType.{type_number}
use Rattle.dns_wire.specs.declared.codes.dns_class.DNSClass.TheVariants as classes
use Rattle.dns_wire.specs.declared.codes.record_type.RecordType.{RecordType}
use Rattle.dns_wire.specs.Name.{AreLabels}
use Rattle.dns_names.specs.Name.{DomainName}
use Rattle.dns_names.specs.Print.{text_of_name, AreOctets}
use Rattle.dns_formats.specs.Field.{fields_of}
use Rattle.dns_formats.specs.ReadBack.{AreDataOf}
use Rattle.dns_data.specs.declared.rdata.RData.{RData}
use Rattle.dns_data.specs.declared.rdata.RData.TheVariants as of
use Rattle.dns_data.specs.rdata.{is_update_data, IsSoundData}
use Rattle.dns_records.specs.Record.{Record}
use Rattle.dns_records.specs.RecordSet.{RecordSetValue}
use Rattle.dns_records.specs.declared.row.Row.{Row}
use Rattle.dns_zone_file.specs.Data.{is_meta_type}
use Rattle.dns_zone_file.specs.Printed.{HasText, IsValidName}
use Rattle.dns_zone.specs.Rows.{Key, ZoneContent}

-- ---- records

-- Bytes that the generic form (RFC 3597 section 5) states as data of a type: some octets, of a type that a zone may have, which
-- are the fields of the type if it has a format.
pub record IsGenericData (record_type : RecordType) (bytes : List ℕ) : Type 0 where
  pub filled : 0 < length bytes
  pub octets : AreOctets bytes
  pub in_zones : is_meta_type (type_number record_type) ≡ false
  pub fields : AreDataOf (fields_of (type_number record_type)) bytes

-- data that a zone file of all types can state: bytes, or the values of a type with a text form
abbrev pub IsStatedData : RData → Type 0
IsStatedData (of.Unknown record_type bytes) = IsGenericData record_type bytes
IsStatedData d = HasText d

-- a record of the class IN with a fully qualified owner, a TTL of 32 bits, and sound data that can be stated
pub record IsStatedRecord (r : Record) : Type 0 where
  pub fqdn : r.name.is_fqdn ≡ true
  pub labels : AreLabels r.name.labels
  pub octets : AllByRecursion AreOctets r.name.labels
  pub dns_class : r.dns_class ≡ classes.IN
  pub ttl_fits : r.ttl < 2 ^ 32
  pub sound : IsSoundData r.rdata
  pub has_data : is_update_data r.rdata ≡ false
  pub rdata : IsStatedData r.rdata

-- each record can be stated
abbrev pub AreStatedRecords : List Record → Type 0
AreStatedRecords records = AllByRecursion IsStatedRecord records

-- ---- zones

-- a row with data that can be stated
abbrev pub IsStatedRow : Row → Type 0
IsStatedRow row = IsStatedData row.rdata

-- rows that can be stated, whose owner has the labels of a name
pub record AreStatedAt (k : Key) (found : List Row) : Type 0 where
  pub labels : AreLabels k.0
  pub octets : AllByRecursion AreOctets k.0
  pub rows : AllByRecursion IsStatedRow found

-- every row of a zone can be stated
abbrev pub IsStated : ZoneContent → Type 0
IsStated zone = (k : Key) → IfSome (rows_map.get zone.rows k) (AreStatedAt k)

-- a set whose owner is a name, as its type ensures, and whose data can be stated
pub record IsStatedSet (s : RecordSetValue) : Type 0 where
  pub owner : IsValidName s.name
  pub rdata : AllByRecursion (λ r. IsStatedData r.rdata) s.records

-- ---- files

-- a text behind the line that states an origin, by which relative names are completed (RFC 1035 section 5.1)
abbrev pub with_origin : DomainName → List ℕ → List ℕ
with_origin origin text = codes "$ORIGIN " ++ text_of_name origin ++ 10 ∷ text
