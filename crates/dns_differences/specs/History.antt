-- The last differences of a zone (RFC 1995 section 5).
use Rattle.std.specs.Prelude.{◌+◌, ◌&&◌, ◌++◌, nat_le, nat_eq, length, if◌then◌else◌, Bool, List, [], ◌∷◌, ℕ, Option, Some, None}
use Rattle.std.specs.Option.{option_eq}
use Rattle.dns_wire.specs.codes.SerialNumber.{serial_order}
use Rattle.dns_wire.specs.declared.codes.serial_number.SerialOrder.{SerialOrder}
use Rattle.dns_wire.specs.declared.codes.serial_number.SerialOrder.TheVariants as orders
use Rattle.dns_records.specs.Rows.{Rows}
use Rattle.dns_differences.specs.declared.difference.Difference.{Difference}
use Rattle.dns_differences.specs.declared.history.Limits.{Limits}
use Rattle.dns_differences.specs.Difference.{first_serial, is_empty, is_numbered, octets, size, Lead}

-- ---- bounds

-- the number of records of differences
abbrev pub sizes : List Difference → ℕ
sizes [] = 0
sizes (d ∷ ds) = size d + sizes ds

-- the octets of the records of differences
abbrev pub all_octets : List Difference → ℕ
all_octets [] = 0
all_octets (d ∷ ds) = octets d + all_octets ds

-- whether differences are within limits
abbrev pub fits : Limits → List Difference → Bool
fits limits ds =
    nat_le (length ds) limits.differences
    && (nat_le (sizes ds) limits.records && nat_le (all_octets ds) limits.octets)

-- differences without the oldest ones, so that the others are within limits
abbrev pub kept : Limits → List Difference → List Difference
kept limits [] = []
kept limits (d ∷ ds) = if fits limits (d ∷ ds) then d ∷ ds else kept limits ds

-- ---- one more difference

-- whether two serial numbers are there and equal, or neither is there
abbrev pub same_serial : Option ℕ → Option ℕ → Bool
same_serial = option_eq nat_eq

-- the serial number of the version to which differences lead
abbrev pub last_serial : List Difference → Option ℕ
last_serial [] = None
last_serial (d ∷ []) = first_serial d.added.items
last_serial (d ∷ e ∷ more) = last_serial (e ∷ more)

-- the differences with one more, or it alone if it is not from the version to which they lead
abbrev pub extended : List Difference → Difference → List Difference
extended ds d = if same_serial (last_serial ds) (first_serial d.deleted.items) then ds ++ d ∷ [] else d ∷ []

-- The differences after a change of the zone: as they were if its records are the same; none if the serial number does not tell
-- the versions apart; or with the difference as the last, and without the oldest ones if there are too many.
abbrev pub recorded : Limits → List Difference → Difference → List Difference
recorded limits ds d =
    if is_empty d then ds
    else if is_numbered d then kept limits (extended ds d)
    else []

-- ---- what a client lacks

-- the differences from the version with a serial number on, or none if that is not among them
abbrev pub from_serial : ℕ → List Difference → List Difference
from_serial serial [] = []
from_serial serial (d ∷ ds) =
    if same_serial (first_serial d.deleted.items) (Some serial) then d ∷ ds else from_serial serial ds

-- differences, if there are any
abbrev pub if_any : List Difference → Option (List Difference)
if_any [] = None
if_any (d ∷ ds) = Some (d ∷ ds)

-- the differences from the version with a serial number to the current one, if they are known
abbrev pub known_since : List Difference → ℕ → ℕ → Option (List Difference)
known_since ds current serial =
    if same_serial (last_serial ds) (Some current) then if_any (from_serial serial ds) else None

-- the same, by the order of the two serial numbers
abbrev pub since_by : SerialOrder → List Difference → ℕ → ℕ → Option (List Difference)
since_by orders.Less ds current serial = known_since ds current serial
since_by orders.Equal ds current serial = Some []
since_by orders.Greater ds current serial = Some []
since_by orders.Undecided ds current serial = None

-- What a client with a serial number lacks: nothing if it has the current version or a later one (RFC 1995 section 2, RFC 1982
-- section 3.2), or the differences from its version on. If these are not known, it needs the whole zone.
abbrev pub since : List Difference → ℕ → ℕ → Option (List Difference)
since ds current serial = since_by (serial_order serial current) ds current serial

-- ---- histories of a zone

-- The differences are those of a zone that has these rows now: they lead to its current version.
abbrev pub IsHistoryOf : Rows → List Difference → Type 0
IsHistoryOf current ds = (old : Rows) × Lead old ds current
