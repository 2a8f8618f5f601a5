-- The places of record sets, by owner and type.
use Rattle.std.specs.Prelude.{◌≡◌, ℕ, ◌&&◌, ◌==◌, if◌then◌else◌, Bool, true, false, List, slice_get, Option, Some, None}
use Rattle.std.specs.Option.{option_map_or}
use Rattle.std.specs.HashMap as hash
use Rattle.std.specs.BTreeMap as tree
use Rattle.std.specs.BTreeMap.{BTreeMap}
use Rattle.std.specs.Ordering.{nat_cmp}
use Rattle.dns_wire.specs.codes.RecordType.{type_number}
use Rattle.dns_names.specs.Name.{DomainName}
use Rattle.dns_names.specs.Compare.{same_name}
use Rattle.dns_records.specs.RecordSet.{RecordSetValue}
use Rattle.dns_zone_file.specs.declared.set_index.SetIndex.{SetIndex}

-- the place of the set of a type among those of an owner
abbrev pub place_among : Option (BTreeMap ℕ ℕ) → ℕ → Option ℕ
place_among None number = None
place_among (Some places) number = tree.get nat_cmp places number

-- the place that an index has for an owner and the number of a type
abbrev pub place_of : SetIndex → DomainName → ℕ → Option ℕ
place_of index owner number = place_among (hash.get same_name index.owners owner) number

-- an index without places
abbrev pub HasNoPlaces : SetIndex → Type 0
HasNoPlaces index = (owner : DomainName) (number : ℕ) → place_of index owner number ≡ None

-- whether a later index has a place for an owner and a type, and else the places of an earlier one
abbrev pub HasPlaced : SetIndex → DomainName → ℕ → ℕ → SetIndex → Type 0
HasPlaced old owner number place new = (other : DomainName) (n : ℕ) → place_of new other n ≡ (if same_name owner other && (number == n) then Some place else place_of old other n)

-- whether two indexes have the same places
abbrev pub HasSamePlaces : SetIndex → SetIndex → Type 0
HasSamePlaces old new = (owner : DomainName) (number : ℕ) → place_of new owner number ≡ place_of old owner number

-- whether a set has an owner, up to ASCII case, and the number of a type
abbrev pub has_key : DomainName → ℕ → RecordSetValue → Bool
has_key owner number s = same_name owner s.name && (number == type_number s.record_type)

-- whether a place is that of a set with an owner and the number of a type
abbrev pub is_place_of : List RecordSetValue → DomainName → ℕ → ℕ → Bool
is_place_of sets owner number place = option_map_or (has_key owner number) (slice_get sets place) false

-- an index of sets has the place of each set for its owner and its type, and no other places
pub record IsIndexOf (index : SetIndex) (sets : List RecordSetValue) : Type 0 where
  pub finds : (owner : DomainName) (number place : ℕ) → place_of index owner number ≡ Some place → is_place_of sets owner number place ≡ true
  pub has_all : (owner : DomainName) (number place : ℕ) → is_place_of sets owner number place ≡ true → place_of index owner number ≡ Some place
