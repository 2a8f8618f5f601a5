-- The record sets of a zone, and the order in which they are kept.
use Rattle.std.specs.Prelude.{◌≡◌, map, find, List, Option, Some, None}
use Rattle.std.specs.List.{AllByRecursion, filter}
use Rattle.std.specs.List.Sorted.{IsStrictlySortedBy}
use Rattle.std.specs.Ordering.{eq_by_cmp, is_lt}
use Rattle.dns_records.specs.Record.{Record}
use Rattle.dns_records.specs.RecordSet.{RecordSetValue, put, record_data}
use Rattle.dns_updates.specs.Keys.{Place, owner_code, place_cmp, type_code}
use Rattle.dns_zone.specs.Rows.{Key, key_cmp, set_key}

-- the set at a key, if there is one
abbrev pub set_at : List RecordSetValue → Key → Option RecordSetValue
set_at sets k = find (λ s. eq_by_cmp key_cmp k (set_key s)) sets

-- the set with other records, if there is one
abbrev pub with_records : List Record → Option RecordSetValue → Option RecordSetValue
with_records records None = None
with_records records (Some s) = Some (record s { records = records })

-- the set with a record in place of the one with equal data, or as the last, if there is a set
abbrev pub with_put : Record → Option RecordSetValue → Option RecordSetValue
with_put r None = None
with_put r (Some s) = Some (record s { records = put record_data s.records r })

-- ---- the order of sets

-- the place of a set in the order
abbrev pub set_place : RecordSetValue → Place
set_place s = (owner_code s.name.labels, type_code s.record_type)

-- the places of sets strictly ascend
abbrev pub AreInOrder : List RecordSetValue → Type 0
AreInOrder sets = IsStrictlySortedBy place_cmp (map set_place sets)

-- the sets that come after a place
abbrev pub sets_after : Place → List RecordSetValue → List RecordSetValue
sets_after place sets = filter (λ s. is_lt (place_cmp place (set_place s))) sets

-- each set is kept at the key of its place
abbrev pub HaveTheirKeys : List (Place × RecordSetValue) → Type 0
HaveTheirKeys entries = AllByRecursion (λ e. e.0 ≡ set_place e.1) entries
