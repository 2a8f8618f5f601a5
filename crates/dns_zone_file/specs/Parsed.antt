-- What the records of a zone file are like, and the sets that they form (RFC 2181 section 5).
use Rattle.std.specs.Prelude.{◌≡◌, ◌<◌, ◌^◌, Bool, true, false, List, length}
use Rattle.std.specs.List.{AllByRecursion, IsDistinct}
use Rattle.dns_wire.specs.codes.DNSClass.{class_number}
use Rattle.dns_wire.specs.declared.codes.record_type.RecordType.{RecordType}
use Rattle.dns_wire.specs.declared.codes.record_type.RecordType.TheVariants as types
use Rattle.dns_names.specs.Name.{DomainName}
use Rattle.dns_names.specs.Compare.{same_name}
use Rattle.dns_text.specs.Lexer.{Lexeme}
use Rattle.dns_data.specs.rdata.{data_type}
use Rattle.dns_records.specs.Record.{Record}
use Rattle.dns_records.specs.RecordSet.{RecordSetValue, AreDistinct, record_data}
use Rattle.dns_zone_file.specs.declared.types.Types.{Types}
use Rattle.dns_zone_file.specs.Data.{ReadsIn}
use Rattle.dns_zone_file.specs.RecordSets.{is_set_of, IsNamedType}

-- A record of a set: fully qualified, with the owner of the set up to ASCII case, its class and its type, a TTL of 32 bits, and
-- data that was parsed with an origin.
pub record IsParsedRecord (s : RecordSetValue) (r : Record) : Type 0 where
  pub fqdn : r.name.is_fqdn ≡ true
  pub owner : same_name r.name s.name ≡ true
  pub dns_class : class_number r.dns_class ≡ class_number s.dns_class
  pub record_type : data_type r.rdata ≡ s.record_type
  pub ttl_fits : r.ttl < 2 ^ 32
  pub types : Types
  pub origin : DomainName
  pub of_type : RecordType
  pub tokens : List Lexeme
  pub rdata : ReadsIn types origin of_type tokens r.rdata

-- the types of which an owner has one record at most: CNAME and SOA (RFC 2136 section 1.1.5)
abbrev pub is_singleton_type : RecordType → Bool
is_singleton_type types.CNAME = true
is_singleton_type types.SOA = true
is_singleton_type other = false

-- A set with a fully qualified owner, a type by the name of its number, and at least one record. No two of its data are equal.
pub record IsParsedSet (s : RecordSetValue) : Type 0 where
  pub fqdn : s.name.is_fqdn ≡ true
  pub type_named : IsNamedType s.record_type
  pub filled : 0 < length s.records
  pub records : AllByRecursion (IsParsedRecord s) s.records
  pub distinct : AreDistinct record_data s.records
  pub single : is_singleton_type s.record_type ≡ true → length s.records ≡ 1

-- no two sets have the same owner, up to ASCII case, and the same type (RFC 2181 section 5)
abbrev pub AreDistinctSets : List RecordSetValue → Type 0
AreDistinctSets sets = IsDistinct (λ s t. is_set_of s.name s.record_type t) sets
