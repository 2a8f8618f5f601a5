-- The text of a zone, as a zone file (RFC 1035 section 5.1).
use Rattle.std.specs.Prelude.{◌≡◌, ◌&&◌, true, Bool, List, [], ◌∷◌, ◌++◌, ℕ, flat_map, Some, None, IfSome}
use Rattle.std.specs.FinMap as rows_map
use Rattle.std.specs.List.{AllByRecursion}
use Rattle.dns_wire.specs.Name.{AreLabels}
use Rattle.dns_names.specs.Name.{DomainName}
use Rattle.dns_names.specs.Print.{AreOctets}
use Rattle.dns_data.specs.Text.{has_text, AreValidValues}
use Rattle.dns_data.specs.rdata.{data_kinds, data_values}
use Rattle.dns_records.specs.declared.row.Row.{Row}
use Rattle.dns_records.specs.Record.{Record}
use Rattle.dns_records.specs.RecordSet.{RecordSetValue}
use Rattle.dns_zone_file.specs.Parsed.{AreDistinctSets}
use Rattle.dns_zone_file.specs.Printed.{record_line}
use Rattle.dns_zone.specs.Load.{is_soa, is_apex, fault_of}
use Rattle.dns_zone.specs.Rows.{Key, ZoneContent, AreSoundSets, rows_of_sets}

-- whether a set is the start of authority of an origin
abbrev pub is_start : DomainName → RecordSetValue → Bool
is_start origin s = is_soa s && is_apex origin s

-- the first set is the start of authority
abbrev pub BeginsWithStart : DomainName → List RecordSetValue → Type 0
BeginsWithStart origin [] = ⊥
BeginsWithStart origin (s ∷ sets) = is_start origin s ≡ true

-- The sets that a zone keeps: the start of authority comes first, no two have the same owner and type, and no fault keeps them
-- from being a zone.
pub record AreZoneSets (origin : DomainName) (sets : List RecordSetValue) : Type 0 where
  pub start_first : BeginsWithStart origin sets
  pub distinct : AreDistinctSets sets
  pub faultless : fault_of (Some origin) sets ≡ None

-- ---- text

-- a line for each record, with an owner
abbrev pub owner_lines : DomainName → List Record → List ℕ
owner_lines owner records = flat_map (λ (r : Record). record_line owner r.ttl r.rdata) records

-- the lines of a set, with its owner
abbrev pub set_lines : RecordSetValue → List ℕ
set_lines s = owner_lines s.name s.records

-- set by set; the owner of the first is the origin, as the zone spells it
abbrev pub zone_text : DomainName → List RecordSetValue → List ℕ
zone_text origin [] = []
zone_text origin (s ∷ sets) = owner_lines origin s.records ++ flat_map set_lines sets

-- A text of a zone: the lines of sets with the rows of the zone, in some order, but with its start of authority first.
pub record IsZoneText (zone : ZoneContent) (text : List ℕ) : Type 0 where
  pub sets : List RecordSetValue
  pub origin_fqdn : zone.origin.is_fqdn ≡ true
  pub rows : zone.rows ≡ rows_of_sets sets
  pub sound : AreSoundSets sets
  pub kept : AreZoneSets zone.origin sets
  pub text_is : text ≡ zone_text zone.origin sets

-- ---- zones whose texts parse back

-- A row whose data has a text form, and values that their types allow: octets, labels and addresses.
pub record IsPrintableRow (row : Row) : Type 0 where
  pub has_text : has_text (data_kinds row.rdata) ≡ true
  pub valid : AreValidValues (data_kinds row.rdata) (data_values row.rdata)

-- printable rows, whose owner has the labels of a name
pub record ArePrintableAt (k : Key) (found : List Row) : Type 0 where
  pub labels : AreLabels k.0
  pub octets : AllByRecursion AreOctets k.0
  pub rows : AllByRecursion IsPrintableRow found

-- every row of a zone can be printed and parsed back
abbrev pub IsPrintable : ZoneContent → Type 0
IsPrintable zone = (k : Key) → IfSome (rows_map.get zone.rows k) (ArePrintableAt k)
