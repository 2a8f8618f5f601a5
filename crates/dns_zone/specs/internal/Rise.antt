-- The rise of the serial number of a zone, by the change before it.
use Rattle.std.specs.Prelude.{◌≡◌, ◌&&◌, ◌||◌, ◌++◌, map, not, true, Bool, List, [], ◌∷◌, IfSome}
use Rattle.std.specs.FinMap as rows_map
use Rattle.std.specs.List.{list_any}
use Rattle.dns_wire.specs.declared.codes.record_type.RecordType.TheVariants as types
use Rattle.dns_differences.specs.Difference.{is_empty}
use Rattle.dns_differences.specs.declared.difference.Difference.{Difference}
use Rattle.dns_names.specs.Compare.{lower}
use Rattle.dns_records.specs.Record.{Record}
use Rattle.dns_records.specs.Rows.{with_set}
use Rattle.dns_records.specs.declared.row.Row.{Row}
use Rattle.dns_updates.specs.Records.{is_of_type}
use Rattle.dns_zone.specs.Answer.{record_of}
use Rattle.dns_zone.specs.Rising.{raised_row, start_key, start_rows}
use Rattle.dns_zone.specs.Rows.{Key, Rows, ZoneContent}
use Rattle.dns_zone.specs.declared.zone.rise.Rise.{Rise}

-- whether some record is an SOA record
abbrev pub has_start : List Record → Bool
has_start records = list_any (is_of_type types.SOA) records

-- whether an SOA record is deleted or added
abbrev pub changes_start : Difference → Bool
changes_start d = has_start d.deleted.items || has_start d.added.items

-- whether the serial number is to rise after a change: it has records, and no SOA record is among them
abbrev pub is_due_by : Difference → Bool
is_due_by d = not (is_empty d) && not (changes_start d)

-- the row of the SOA record before a rise that is due, by the rows there
abbrev pub start_before : Bool → List Row → List Row
start_before true (row ∷ more) = row ∷ []
start_before due rows = []

-- and the one after it
abbrev pub start_after : Bool → List Row → List Row
start_after true (row ∷ more) = raised_row row ∷ []
start_after due rows = []

-- A change with both versions of the SOA record in front, and the later one, if the serial number rises.
pub record IsRise (zone : ZoneContent) (d : Difference) (rise : Rise) : Type 0 where
  pub deleted : rise.change.deleted.items
      ≡ map (record_of zone.origin) (start_before (is_due_by d) (start_rows zone)) ++ d.deleted.items
  pub added : rise.change.added.items
      ≡ map (record_of zone.origin) (start_after (is_due_by d) (start_rows zone)) ++ d.added.items
  pub start : rise.start.items ≡ map (record_of zone.origin) (start_after (is_due_by d) (start_rows zone))

-- rows with others at a key, if there are any
abbrev pub rows_with_start : Rows → Key → List Row → Rows
rows_with_start rows k [] = rows
rows_with_start rows k (row ∷ more) = with_set rows k (row ∷ more)

-- a zone with other rows of its SOA record, if there are any
abbrev pub zone_with_start : ZoneContent → List Row → ZoneContent
zone_with_start zone rows = record zone { rows = rows_with_start zone.rows (start_key zone) rows }

-- the owners of all keys are in lower case
abbrev pub HasLowerKeys : Rows → Type 0
HasLowerKeys rows = (k : Key) → IfSome (rows_map.get rows k) (λ found. lower k.0 ≡ k.0)
