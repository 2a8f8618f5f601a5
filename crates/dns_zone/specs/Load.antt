-- The zone of a zone file (RFC 1035 section 5.2).
use Rattle.std.specs.Prelude.{◌≡◌, ◌==◌, ◌&&◌, not, nat_lt, if◌then◌else◌, Bool, true, List, ℕ, Option, Some, None, Result, Ok, Err}
use Rattle.std.specs.List.{list_any}
use Rattle.dns_wire.specs.codes.DNSClass.{class_number}
use Rattle.dns_wire.specs.codes.RecordType.{type_number}
use Rattle.dns_names.specs.Name.{DomainName}
use Rattle.dns_names.specs.Compare.{at_or_below, same_labels}
use Rattle.dns_data.specs.rdata.{whole_len}
use Rattle.dns_records.specs.RecordSet.{RecordSetValue}
use Rattle.dns_zone_file.specs.declared.parser.ZoneRecords.{ZoneRecords}
use Rattle.dns_zone_file.specs.declared.error.ZoneFileError.{ZoneFileError}
use Rattle.dns_zone_file.specs.declared.types.Types.{Types}
use Rattle.dns_zone_file.specs.declared.types.Types.TheVariants.{Nine}
use Rattle.dns_zone_file.specs.Parsing.{Includes, ParsesIn, HasRecords}
use Rattle.dns_zone.specs.declared.zone.ZoneFault.{ZoneFault}
use Rattle.dns_zone.specs.declared.zone.ZoneFault.TheVariants as fault
use Rattle.dns_zone.specs.Rows.{ZoneContent, rows_of_sets}

-- the origin: the one that is given, fully qualified, or else the owner of the first SOA record
abbrev pub zone_origin : Option DomainName → Option DomainName → Option DomainName
zone_origin (Some origin) soa_owner = Some (record origin { is_fqdn = true })
zone_origin None soa_owner = soa_owner

-- whether a set is of the class IN
abbrev pub is_internet : RecordSetValue → Bool
is_internet s = class_number s.dns_class == 1

-- whether the owner of a set is at or below an origin
abbrev pub is_inside : DomainName → RecordSetValue → Bool
is_inside origin s = at_or_below origin.labels s.name.labels

-- whether a set has the type SOA
abbrev pub is_soa : RecordSetValue → Bool
is_soa s = type_number s.record_type == 6

-- whether the owner of a set is the origin
abbrev pub is_apex : DomainName → RecordSetValue → Bool
is_apex origin s = same_labels origin.labels s.name.labels

-- data that cannot be encoded (RFC 1035 section 3.2.1)
abbrev pub has_long_data : RecordSetValue → Bool
has_long_data s = list_any (λ r. nat_lt 65535 (whole_len r.rdata)) s.records

-- the first fault of sets at an origin, by kind
abbrev pub fault_at : DomainName → List RecordSetValue → Option ZoneFault
fault_at origin sets =
    if list_any (λ s. not (is_inside origin s)) sets then Some fault.OutsideOrigin
    else if not (list_any (λ s. is_soa s && is_apex origin s) sets) then Some fault.NoSoa
    else if list_any (λ s. is_soa s && not (is_apex origin s)) sets then Some fault.SoaElsewhere
    else if list_any has_long_data sets then Some fault.DataTooLong
    else None

-- Without an origin nothing is outside, and the SOA record is missing.
abbrev pub fault_of : Option DomainName → List RecordSetValue → Option ZoneFault
fault_of origin sets =
    if list_any (λ s. not (is_internet s)) sets then Some fault.NotInternet
    else elim origin [ None ↦ Some fault.NoSoa | Some apex ↦ fault_at apex sets ]

-- The zone of a text, by the types that it may have, with texts to include and perhaps an origin, or its first fault by kind.
pub data ReadsZoneIn (types : Types) (includes : Includes) (origin : Option DomainName) (text : List ℕ)
    : Result ZoneContent ZoneFault → Type 0 where
  bad_text : {error : ZoneFileError} → ParsesIn types includes origin text (Err error)
      → ReadsZoneIn types includes origin text (Err (fault.Parse error))
  bad_zone : {records : ZoneRecords} {refusal : ZoneFault}
      → HasRecords (record { text = text; includes = includes; origin = origin; types = types }) records
      → fault_of (zone_origin origin records.soa_owner) records.sets ≡ Some refusal
      → ReadsZoneIn types includes origin text (Err refusal)
  good_zone : {records : ZoneRecords} {apex : DomainName}
      → HasRecords (record { text = text; includes = includes; origin = origin; types = types }) records
      → zone_origin origin records.soa_owner ≡ Some apex → fault_of (Some apex) records.sets ≡ None
      → ReadsZoneIn types includes origin text (Ok (record { origin = apex; rows = rows_of_sets records.sets }))

-- the zone of a text of the types with fields alone
abbrev pub ReadsZone : Includes → Option DomainName → List ℕ → Result ZoneContent ZoneFault → Type 0
ReadsZone includes origin text outcome = ReadsZoneIn Nine includes origin text outcome
