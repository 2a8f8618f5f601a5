-- The rows of record sets.
use Rattle.std.specs.Prelude.{◌≡◌, Bool, true, List, ℕ, map}
use Rattle.std.specs.List.{list_any}
use Rattle.std.specs.Ordering.{eq_by_cmp}
use Rattle.std.specs.FinMap as rows_map
use Rattle.dns_wire.specs.declared.codes.record_type.RecordType.{RecordType}
use Rattle.dns_names.specs.Compare.{same_labels}
use Rattle.dns_records.specs.RecordSet.{RecordSetValue}
use Rattle.dns_records.specs.Rows.{Key, Rows, key, key_cmp, rows_of, set_key}

-- the rows of sets: at the key of a set, a row with the TTL and the data of each of its records
abbrev pub rows_of_sets : List RecordSetValue → Rows
rows_of_sets sets = rows_map.from_entries (map (λ s. (set_key s, rows_of s.records)) sets)

-- whether a key is that of an owner and one of these types
abbrev pub is_key_among : List (List ℕ) → List RecordType → Key → Bool
is_key_among owner types k = list_any (λ t. eq_by_cmp key_cmp k (key owner t)) types

-- the types of all rows of an owner are among these
abbrev pub AreTypesAt : Rows → List (List ℕ) → List RecordType → Type 0
AreTypesAt rows owner types = (k : Key) → same_labels owner k.0 ≡ true → rows_map.contains_key rows k ≡ true
    → is_key_among owner types k ≡ true
