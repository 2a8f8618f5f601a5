-- How changed sets are found by owner and type, and the types of the sets of an owner.
use Rattle.std.specs.Prelude.{◌≡◌, ◌&&◌, ◌||◌, not, Bool, true, false, List, ℕ, Option, None, Some, IfSome, option_map}
use Rattle.std.specs.FinMap as rows_map
use Rattle.std.specs.List.{AllByRecursion}
use Rattle.std.specs.Map.{lookup}
use Rattle.std.specs.Cmp.Lexicographic.{slice_cmp}
use Rattle.std.specs.Ordering.{eq_by_cmp, nat_cmp}
use Rattle.dns_wire.specs.declared.codes.record_type.RecordType.{RecordType}
use Rattle.dns_records.specs.Record.{Record}
use Rattle.dns_records.specs.Rows.{Key, Rows}
use Rattle.dns_updates.specs.Sets.{is_key_among}
pub use Rattle.dns_updates.specs.Changes.{changed_place}
use Rattle.dns_updates.specs.Keys.{Place, owner_code}
use Rattle.dns_updates.specs.declared.changes.changed_set.ChangedSet.{ChangedSet}
use Rattle.dns_updates.specs.declared.changes.owner_types.Listing.{Listing}
use Rattle.dns_updates.specs.declared.changes.owner_types.OwnerTypes.{OwnerTypes}

-- each changed set is kept at the key of its place
abbrev pub HaveTheirKeys : List (Place × ChangedSet) → Type 0
HaveTheirKeys entries = AllByRecursion (λ e. e.0 ≡ changed_place e.1) entries

-- the changed set with other records, if there is one
abbrev pub with_records : List Record → Option ChangedSet → Option ChangedSet
with_records records None = None
with_records records (Some s) = Some (record s { records = records })

-- a changed set stays, and its name with it, in the spelling it had
abbrev pub KeepsName : Option ChangedSet → Option ChangedSet → Type 0
KeepsName old new = IfSome old (λ s. option_map (λ (x : ChangedSet). x.name) new ≡ Some s.name)

-- whether the bytes of two owners are the same
abbrev pub is_code : List ℕ → List ℕ → Bool
is_code = eq_by_cmp (slice_cmp nat_cmp)

-- the listing of the owner with these bytes
abbrev pub listing_at : OwnerTypes → List ℕ → Option Listing
listing_at types code = lookup (λ k. is_code code k) types.map.entries

-- whether a key is among those of a listing, where a zone has rows
abbrev pub is_in_listing : Rows → Key → Option Listing → Bool
is_in_listing zone k None = rows_map.contains_key zone k
is_in_listing zone k (Some l) = is_key_among k.0 l.types.items k || (not l.is_complete && rows_map.contains_key zone k)

-- the listings have the types of all rows
abbrev pub AreListed : Rows → Rows → OwnerTypes → Type 0
AreListed zone rows types = (k : Key) → rows_map.contains_key rows k ≡ true
    → is_in_listing zone k (listing_at types (owner_code k.0)) ≡ true

-- whether there is a type that passes a test
abbrev pub passes : (RecordType → Bool) → Option RecordType → Bool
passes p None = false
passes p (Some t) = p t
