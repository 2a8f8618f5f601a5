-- How records stand in places.
use Rattle.std.specs.Prelude.{◌≡◌, ◌≤◌, not, Bool, false, [], ℕ, Option, Some, None, length, vec_capacity}
use Rattle.std.specs.Global.{Vec}
use Rattle.dns_data.specs.declared.rdata.RData.{RData}
use Rattle.dns_data.specs.rdata.{same_data}
use Rattle.dns_records.specs.Record.{Record}
use Rattle.dns_records.specs.edits.Places.{IsIndexOf, records_in}
use Rattle.dns_records.specs.declared.edits.data_places.DataPlaces.{DataPlaces}

-- whether a place has a record with other data
abbrev pub has_other_data : Option Record → RData → Bool
has_other_data None d = false
has_other_data (Some r) d = not (same_data r.rdata d)

-- the records are counted, there is room for them all, and the index is one of their places
pub record IsSound (places : Vec (Option Record)) (len : ℕ) (room : Vec Record) (index : DataPlaces) : Type 0 where
  pub counted : len ≡ length (records_in places.items)
  pub empty : room.items ≡ []
  pub fits : length places.items ≤ vec_capacity room
  pub indexed : IsIndexOf index places.items
