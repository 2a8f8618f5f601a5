-- The rows of a zone: a finite map from an owner, up to ASCII case, and a type to data with TTLs, in order.
use Rattle.std.specs.Prelude.{◌≢◌, Bool, List, [], ◌∷◌, ℕ, Some, map, unwrap_or}
use Rattle.std.specs.List.{list_any}
use Rattle.std.specs.declared.cmp.Ordering.{Ordering}
use Rattle.std.specs.Ordering.{nat_cmp, ordering_then}
use Rattle.std.specs.Cmp.Lexicographic.{slice_cmp}
use Rattle.std.specs.FinMap as rows_map
use Rattle.dns_wire.specs.declared.codes.record_type.RecordType.{RecordType}
use Rattle.dns_wire.specs.codes.RecordType.{type_number}
use Rattle.dns_names.specs.Compare.{lower, at_or_below}
use Rattle.dns_data.specs.rdata.{data_type}
use Rattle.dns_records.specs.declared.row.Row.{Row}
use Rattle.dns_records.specs.Record.{Record}
use Rattle.dns_records.specs.RecordSet.{RecordSetValue}

-- where rows of a set are found: by the labels of the owner in lower case, and the number of the type
abbrev pub Key : Type 0
Key = List (List ℕ) × ℕ

-- the order of keys: by labels, from the left, and then by type
abbrev pub key_cmp : Key → Key → Ordering
key_cmp a b = ordering_then (slice_cmp (slice_cmp nat_cmp) a.0 b.0) (nat_cmp a.1 b.1)

-- the rows at each key
abbrev pub Rows : Type 0
Rows = rows_map.FinMap key_cmp (List Row)

-- the key of an owner and a type
abbrev pub key : List (List ℕ) → RecordType → Key
key owner record_type = (lower owner, type_number record_type)

-- the rows of a type at a name, in order
abbrev pub rows_at : Rows → List (List ℕ) → RecordType → List Row
rows_at rows owner record_type = unwrap_or (rows_map.get rows (key owner record_type)) []

-- whether the owner of some row is the name or below it
abbrev pub some_row_below : Rows → List (List ℕ) → Bool
some_row_below rows name = list_any (λ k. at_or_below name k.0) (rows_map.keys rows)

-- ---- rows of records

-- the type of a record
abbrev pub type_of_record : Record → RecordType
type_of_record r = data_type r.rdata

-- the TTL and the data of a record
abbrev pub row_of : Record → Row
row_of r = record { ttl = r.ttl; rdata = r.rdata }

-- the rows of records
abbrev pub rows_of : List Record → List Row
rows_of records = map row_of records

-- the key of a record's rows, and that of a set's
abbrev pub key_of : Record → Key
key_of r = key r.name.labels (type_of_record r)

-- the key of a set's rows
abbrev pub set_key : RecordSetValue → Key
set_key s = key s.name.labels s.record_type

-- the rows of a record's owner and type
abbrev pub set_of : Rows → Record → List Row
set_of rows r = rows_at rows r.name.labels (type_of_record r)

-- the rows with a set at a key; an empty set is removed
abbrev pub with_set : Rows → Key → List Row → Rows
with_set rows k [] = rows_map.remove rows k
with_set rows k (row ∷ more) = rows_map.insert rows k (row ∷ more)

-- no key has an empty set
abbrev pub HasNoEmptySet : Rows → Type 0
HasNoEmptySet rows = (k : Key) → rows_map.get rows k ≢ Some []
