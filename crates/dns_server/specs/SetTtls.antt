-- One TTL for the records of a set (RFC 2181 section 5.2): an update as a server completes it before it is applied.
use Rattle.std.specs.Prelude.{◌≡◌, ◌==◌, ◌&&◌, ◌||◌, ◌++◌, map, not, if◌then◌else◌, is_none, unwrap_or, Bool, true, List, [], ◌∷◌, ℕ, Option, Some, None}
use Rattle.std.specs.List.{filter, AllByRecursion}
use Rattle.dns_wire.specs.codes.RecordType.{type_number}
use Rattle.dns_messages.specs.declared.message.Message.{Message}
use Rattle.dns_names.specs.Compare.{same_labels}
use Rattle.dns_records.specs.Record.{Record}
use Rattle.dns_records.specs.Rows.{Rows, set_of, type_of_record}
use Rattle.dns_records.specs.declared.row.Row.{Row}
use Rattle.dns_updates.specs.Records.{is_in_class, is_meta_number, is_type}
use Rattle.dns_zone.specs.Answer.{record_of}

-- Whether the records of a set of this type have one TTL. A CNAME (5) or SOA (6) record is alone in its set, an RRSIG record (46) has
-- the TTL of the set that it covers (RFC 4034 section 3), and an addition of a meta type is refused (RFC 2136 section 3.4.1.2).
abbrev pub has_one_ttl : ℕ → Bool
has_one_ttl number = not ((number == 5) || ((number == 6) || ((number == 46) || is_meta_number number)))

-- whether an update is an addition to such a set
abbrev pub is_addition : Record → Bool
is_addition r = is_in_class r.dns_class && has_one_ttl (type_number (type_of_record r))

-- whether an update is an addition to the set of a record: it has its owner, up to ASCII case, and its type
abbrev pub adds_to : Record → Record → Bool
adds_to r update = is_addition update && (same_labels r.name.labels update.name.labels && is_type (type_of_record r) (type_of_record update))

-- the TTL that later updates give the set of a record, or else that of an update which adds to it
abbrev pub ttl_with : Option ℕ → Record → Record → Option ℕ
ttl_with (Some ttl) r update = Some ttl
ttl_with None r update = if adds_to r update then Some update.ttl else None

-- the TTL of the last addition to the set of a record, if there is one
abbrev pub last_ttl : List Record → Record → Option ℕ
last_ttl [] r = None
last_ttl (update ∷ more) r = ttl_with (last_ttl more r) r update

-- the TTL of an update: that of the last addition to its set, if it is one
abbrev pub set_ttl : List Record → Record → ℕ
set_ttl updates r = if is_addition r then unwrap_or (last_ttl updates r) r.ttl else r.ttl

-- an update with this TTL
abbrev pub with_set_ttl : List Record → Record → Record
with_set_ttl updates r = record r { ttl = set_ttl updates r }

-- the rows that have another TTL than an addition, as additions with its owner and its TTL
abbrev pub restated_rows : Record → List Row → List Record
restated_rows r rows =
    map (λ row. record_of r.name (record row { ttl = r.ttl })) (filter (λ row. not (row.ttl == r.ttl)) rows)

-- those of a zone in the sets to which updates add: in each set, by the last addition to it
abbrev pub restated : Rows → List Record → List Record
restated rows [] = []
restated rows (r ∷ more) =
    restated rows more ++ (if is_addition r && is_none (last_ttl more r) then restated_rows r (set_of rows r) else [])

-- An update whose additions, and the records in their sets, have one TTL in each set. An addition of equal data replaces the record
-- (RFC 2136 section 3.4.2.2).
abbrev pub with_one_ttl : Rows → Message → Message
with_one_ttl rows m = record m {
  authorities = restated rows m.authorities ++ map (with_set_ttl m.authorities) m.authorities;
}

-- updates in which all additions to a set have one TTL
abbrev pub HaveOneTtl : List Record → Type 0
HaveOneTtl updates =
    AllByRecursion (λ r. AllByRecursion (λ s. is_addition r ≡ true → adds_to r s ≡ true → r.ttl ≡ s.ttl) updates) updates
