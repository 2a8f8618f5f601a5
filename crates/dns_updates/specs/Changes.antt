-- The changes of an update, as sets that stand in place of those of the zone.
use Rattle.std.specs.Prelude.{◌==◌, ◌&&◌, not, find, map, Bool, List, [], ◌∷◌, Option}
use Rattle.std.specs.List.Sorted.{IsStrictlySortedBy}
use Rattle.std.specs.Ordering.{eq_by_cmp}
use Rattle.dns_wire.specs.codes.RecordType.{type_number}
use Rattle.dns_wire.specs.declared.codes.record_type.RecordType.{RecordType}
use Rattle.dns_names.specs.Name.{DomainName}
use Rattle.dns_records.specs.Rows.{Key, Rows, key, key_cmp, rows_of, with_set}
use Rattle.dns_updates.specs.Keys.{Place, owner_code, place_cmp, type_code}
use Rattle.dns_updates.specs.Records.{has_set}
use Rattle.dns_updates.specs.declared.changes.changed_set.ChangedSet.{ChangedSet}

-- the key of a changed set
abbrev pub changed_key : ChangedSet → Key
changed_key s = key s.name.labels s.record_type

-- the place of a changed set in the order
abbrev pub changed_place : ChangedSet → Place
changed_place s = (owner_code s.name.labels, type_code s.record_type)

-- the places of changed sets strictly ascend
abbrev pub AreInOrder : List ChangedSet → Type 0
AreInOrder sets = IsStrictlySortedBy place_cmp (map changed_place sets)

-- the changed set at a key, if there is one
abbrev pub changed_at : List ChangedSet → Key → Option ChangedSet
changed_at sets k = find (λ s. eq_by_cmp key_cmp k (changed_key s)) sets

-- the rows with each changed set in place of the one at its key; an empty set is removed
abbrev pub overlay : Rows → List ChangedSet → Rows
overlay rows [] = rows
overlay rows (s ∷ more) = with_set (overlay rows more) (changed_key s) (rows_of s.records)

-- whether a name has rows of a type that is not another one
abbrev pub is_other_set : Rows → DomainName → RecordType → RecordType → Bool
is_other_set rows owner t other = not (type_number t == type_number other) && has_set rows owner other
