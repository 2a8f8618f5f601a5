-- Records as lines of a zone file, and the records that these lines contain (RFC 1035 section 5.1).
use Rattle.std.specs.Prelude.{◌≡◌, ◌<◌, ◌^◌, ℕ, true, false, List, [], ◌∷◌, ◌++◌, codes, flat_map, Option, Some, None, option_map, IfSome}
use Rattle.std.specs.Fmt.{decimal}
use Rattle.std.specs.List.{AllByRecursion}
use Rattle.dns_wire.specs.codes.CodeText.{type_text, or_else}
use Rattle.dns_wire.specs.declared.codes.dns_class.DNSClass.TheVariants as classes
use Rattle.dns_wire.specs.Name.{AreLabels}
use Rattle.dns_names.specs.Name.{DomainName}
use Rattle.dns_names.specs.Print.{text_of_name, AreOctets}
use Rattle.dns_data.specs.Text.{has_text, AreValidValues}
use Rattle.dns_data.specs.declared.rdata.RData.{RData}
use Rattle.dns_data.specs.rdata.{data_type, data_kinds, data_values, data_text, is_update_data, IsSoundData}
use Rattle.dns_records.specs.Record.{Record}
use Rattle.dns_records.specs.RecordSet.{RecordSetValue}
use Rattle.dns_zone_file.specs.declared.context.Context.{Context}
use Rattle.dns_zone_file.specs.declared.parser.ZoneRecords.{ZoneRecords}
use Rattle.dns_zone_file.specs.declared.types.Types.TheVariants.{Nine}
use Rattle.dns_zone_file.specs.Context.{soa_of, after_record}
use Rattle.dns_zone_file.specs.Parsing.{ZoneFile, start_origin}
use Rattle.dns_zone_file.specs.RecordSets.{inserted_in}

-- ---- lines

-- a record of the class IN as a line: owner, TTL, class, type and data, separated by blanks
abbrev pub record_line : DomainName → ℕ → RData → List ℕ
record_line owner ttl d =
    text_of_name owner ++ 32 ∷ decimal ttl ++ codes " IN " ++ type_text (data_type d) ++ 32 ∷ data_text d ++ 10 ∷ []

-- one line for each record
abbrev pub lines_of : List Record → List ℕ
lines_of records = flat_map (λ r. record_line r.name r.ttl r.rdata) records

-- ---- records that can be printed

-- sound data of a type with a text form, whose values are valid, and not the absent data of a record of an update
pub record IsPrintableData (d : RData) : Type 0 where
  pub sound : IsSoundData d
  pub valid : AreValidValues (data_kinds d) (data_values d)
  pub has_text : has_text (data_kinds d) ≡ true
  pub has_data : is_update_data d ≡ false

-- a record of the class IN with a fully qualified owner, a TTL of 32 bits, and data that can be printed
pub record IsPrintableRecord (r : Record) : Type 0 where
  pub fqdn : r.name.is_fqdn ≡ true
  pub labels : AreLabels r.name.labels
  pub octets : AllByRecursion AreOctets r.name.labels
  pub dns_class : r.dns_class ≡ classes.IN
  pub ttl_fits : r.ttl < 2 ^ 32
  pub rdata : IsPrintableData r.rdata

-- each record can be printed
abbrev pub ArePrintableRecords : List Record → Type 0
ArePrintableRecords records = AllByRecursion IsPrintableRecord records

-- ---- parsed sets that can be printed

-- a name as its type ensures it: labels of octets, of at most 255 bytes
abbrev pub IsValidName : DomainName → Type 0
IsValidName name = AreLabels name.labels × AllByRecursion AreOctets name.labels

-- data of a type with a text form, whose values are valid
pub record HasText (d : RData) : Type 0 where
  pub valid : AreValidValues (data_kinds d) (data_values d)
  pub has_text : has_text (data_kinds d) ≡ true

-- a set with a valid owner, whose data has a text form
pub record IsTextSet (s : RecordSetValue) : Type 0 where
  pub owner : IsValidName s.name
  pub rdata : AllByRecursion (λ r. HasText r.rdata) s.records

-- a text and the texts to include consist of octets, and the origin is valid, as the types of the parser's arguments ensure;
-- the file has the types with fields alone
pub record IsTextFile (file : ZoneFile) : Type 0 where
  pub types : file.types ≡ Nine
  pub text : AreOctets file.text
  pub includes : AllByRecursion (λ i. AreOctets i.1) file.includes
  pub origin : IfSome file.origin IsValidName

-- ---- what the lines contain

-- the context after entries with these records, each of which states its TTL
abbrev pub after_records : Context → List Record → Context
after_records c [] = c
after_records c (r ∷ records) = after_records (after_record c (Some r.ttl) r) records

-- the sets with more records, inserted one after another
abbrev pub inserted_each : List RecordSetValue → List Record → List RecordSetValue
inserted_each sets [] = sets
inserted_each sets (r ∷ records) = inserted_each (inserted_in sets r) records

-- the owner of the first SOA record
abbrev pub first_soa_owner : List Record → Option DomainName
first_soa_owner [] = None
first_soa_owner (r ∷ records) = or_else (option_map (λ soa. soa.owner) (soa_of r)) (first_soa_owner records)

-- what a file of these lines contains, parsed with an origin or without one
abbrev pub printed_records : Option DomainName → List Record → ZoneRecords
printed_records origin records = record {
  origin = start_origin origin;
  sets = inserted_each [] records;
  soa_owner = first_soa_owner records;
}
