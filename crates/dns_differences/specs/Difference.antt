-- Differences between two versions of a zone (RFC 1995 section 4).
use Rattle.std.specs.Prelude.{◌≡◌, ◌==◌, ◌&&◌, ◌+◌, ◌++◌, not, length, sum_by, Bool, true, false, List, [], ◌∷◌, ℕ, Option, Some, None}
use Rattle.std.specs.List.{filter, list_any}
use Rattle.std.specs.Ordering.{eq_by_cmp}
use Rattle.dns_data.specs.declared.rdata.RData.{RData}
use Rattle.dns_data.specs.declared.rdata.RData.TheVariants as of
use Rattle.dns_data.specs.rdata.{same_data, whole_len}
use Rattle.dns_records.specs.Record.{Record}
use Rattle.dns_records.specs.Rows.{Rows, key_cmp, key_of, row_of, set_of}
use Rattle.dns_records.specs.declared.row.Row.{Row}
use Rattle.dns_wire.specs.Name.{name_len}
use Rattle.dns_differences.specs.declared.difference.Difference.{Difference}

-- ---- the records of a zone, as a set

-- whether two rows have the same TTL, and equal data
abbrev pub same_row : Row → Row → Bool
same_row a b = (a.ttl == b.ttl) && same_data a.rdata b.rdata

-- whether an equal row is among others
abbrev pub has_row : List Row → Row → Bool
has_row rows r = list_any (λ x. same_row x r) rows

-- whether a zone with these rows has a record: one of its owner, ignoring ASCII case, its type, its TTL and its data
abbrev pub in_zone : Rows → Record → Bool
in_zone rows r = has_row (set_of rows r) (row_of r)

-- whether two records are the same one of a zone
abbrev pub same_in_zone : Record → Record → Bool
same_in_zone a b = eq_by_cmp key_cmp (key_of a) (key_of b) && same_row (row_of a) (row_of b)

-- whether a record is among others
abbrev pub is_among : List Record → Record → Bool
is_among records r = list_any (λ x. same_in_zone x r) records

-- the records of a zone with these rows, in any order
abbrev pub AreRecordsOf : Rows → List Record → Type 0
AreRecordsOf rows records = (r : Record) → is_among records r ≡ in_zone rows r

-- two versions of a zone have the same records
abbrev pub AreAlike : Rows → Rows → Type 0
AreAlike old new = (r : Record) → in_zone old r ≡ in_zone new r

-- ---- differences

-- A difference from one version to another: the records that the new one lacks are deleted, and those that the old one lacks are
-- added.
pub record IsDifference (old new : Rows) (d : Difference) : Type 0 where
  pub deleted : (r : Record) → is_among d.deleted.items r ≡ (in_zone old r && not (in_zone new r))
  pub added : (r : Record) → is_among d.added.items r ≡ (in_zone new r && not (in_zone old r))

-- The records after a difference: those that are deleted are removed, and those that are added follow (RFC 1995 section 4).
abbrev pub applied : Difference → List Record → List Record
applied d records = filter (λ r. not (is_among d.deleted.items r)) records ++ d.added.items

-- the records after differences that are applied one after another
abbrev pub applied_all : List Difference → List Record → List Record
applied_all [] records = records
applied_all (d ∷ ds) records = applied_all ds (applied d records)

-- differences that lead, one after another, from one version to another
abbrev pub Lead : Rows → List Difference → Rows → Type 0
Lead old [] new = AreAlike old new
Lead old (d ∷ ds) new = (next : Rows) × (IsDifference old next d × Lead next ds new)

-- ---- the SOA records at the head of both parts

-- the serial number of SOA data
abbrev pub serial_of : RData → Option ℕ
serial_of (of.SOA soa) = Some soa.serial
serial_of other = None

-- the serial number of the first of some records, if that is an SOA record
abbrev pub first_serial : List Record → Option ℕ
first_serial [] = None
first_serial (r ∷ rs) = serial_of r.rdata

-- whether both serial numbers are there, and differ
abbrev pub are_apart : Option ℕ → Option ℕ → Bool
are_apart (Some old) (Some new) = not (old == new)
are_apart old new = false

-- Whether serial numbers tell the two versions apart: both parts begin with an SOA record, with different serial numbers.
abbrev pub is_numbered : Difference → Bool
is_numbered d = are_apart (first_serial d.deleted.items) (first_serial d.added.items)

-- ---- sizes

-- whether the versions do not differ
abbrev pub is_empty : Difference → Bool
is_empty d = (length d.deleted.items == 0) && (length d.added.items == 0)

-- the number of records
abbrev pub size : Difference → ℕ
size d = length d.deleted.items + length d.added.items

-- the octets of a record without compression: owner, type, class, TTL, data length and data (RFC 1035 section 4.1.3)
abbrev pub record_octets : Record → ℕ
record_octets r = (name_len r.name.labels + 10) + whole_len r.rdata

-- the octets of all records
abbrev pub octets : Difference → ℕ
octets d = sum_by record_octets d.deleted.items + sum_by record_octets d.added.items

-- ---- serial numbers of versions

-- a zone with these rows has an SOA record with a serial number
abbrev pub HasSerial : Rows → ℕ → Type 0
HasSerial rows serial = (r : Record) × ((in_zone rows r ≡ true) × (serial_of r.rdata ≡ Some serial))
