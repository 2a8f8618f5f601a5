-- Places of records, each with a record or without one, and where data stands in them.
use Rattle.std.specs.Prelude.{◌≡◌, Bool, true, false, List, [], ◌∷◌, ℕ, Option, Some, None, slice_get}
use Rattle.std.specs.BTreeMap as tree
use Rattle.std.specs.BTreeMap.{BTreeMap}
use Rattle.dns_data.specs.declared.rdata.RData.{RData}
use Rattle.dns_data.specs.rdata.{same_data}
use Rattle.dns_data.specs.rdata.Order.{data_cmp}
use Rattle.dns_records.specs.Record.{Record}
use Rattle.dns_records.specs.declared.edits.data_places.DataPlaces.{DataPlaces}

-- the records that stand in places, in order
unfoldable pub records_in : List (Option Record) → List Record
records_in [] = []
records_in (None ∷ more) = records_in more
records_in (Some r ∷ more) = r ∷ records_in more

-- whether a place has a record with equal data
abbrev pub has_data : Option Record → RData → Bool
has_data None d = false
has_data (Some r) d = same_data r.rdata d

-- whether there is a place, and it has a record with equal data
abbrev pub is_place_of : Option (Option Record) → RData → Bool
is_place_of None d = false
is_place_of (Some place) d = has_data place d

-- The entry of data is its place. So no data stands in two places.
pub record HasPlaces (entries : BTreeMap RData ℕ) (places : List (Option Record)) : Type 0 where
  pub is_place : (d : RData) (i : ℕ) → tree.get data_cmp entries d ≡ Some i → is_place_of (slice_get places i) d ≡ true
  pub is_entered : (d : RData) (i : ℕ) → is_place_of (slice_get places i) d ≡ true → tree.get data_cmp entries d ≡ Some i

-- an index of places has the entries of all data, if it is complete
pub record IsIndexOf (index : DataPlaces) (places : List (Option Record)) : Type 0 where
  pub has_places : index.is_complete ≡ true → HasPlaces index.entries places
