-- How changed sets are stored among those of a zone, in three steps: what the zone has at a key after each.
use Rattle.std.specs.Prelude.{◌≡◌, ◌==◌, ◌&&◌, not, Bool, true, false, if◌then◌else◌, List, [], ◌∷◌, length, map, find, Option, Some, None}
use Rattle.std.specs.List.{list_any}
use Rattle.std.specs.Ordering.{eq_by_cmp}
use Rattle.dns_wire.specs.codes.RecordType.{type_number, type_of}
use Rattle.dns_wire.specs.declared.codes.dns_class.DNSClass.TheVariants.{IN}
use Rattle.dns_records.specs.RecordSet.{RecordSetValue, empty_set}
use Rattle.dns_updates.specs.Changes.{changed_key}
use Rattle.dns_updates.specs.declared.changes.changed_set.ChangedSet.{ChangedSet}
use Rattle.dns_messages.specs.declared.message.Message.{Message}
use Rattle.dns_records.specs.Record.{Record}
use Rattle.dns_records.specs.Rows.{type_of_record}
use Rattle.dns_updates.specs.Change.{is_put}
use Rattle.dns_updates.specs.Records.{has_set}
use Rattle.dns_zone.specs.Rows.{Key, ZoneContent, key_cmp}
use Rattle.dns_zone.specs.Sets.{with_records}

-- whether a changed set has a key
abbrev pub has_key : Key → ChangedSet → Bool
has_key k c = eq_by_cmp key_cmp k (changed_key c)

-- the keys of the changed sets
abbrev pub changed_keys : List ChangedSet → List Key
changed_keys changed = map changed_key changed

-- ---- reserving

-- an empty set for a changed set
abbrev pub reserved_set : ChangedSet → RecordSetValue
reserved_set c = empty_set (record c.name { is_fqdn = true }) (type_of (type_number c.record_type)) IN 0 0

-- the set at a key, or else an empty one for a changed set, if there is one
abbrev pub or_reserved : Option ChangedSet → Option RecordSetValue → Option RecordSetValue
or_reserved found (Some s) = Some s
or_reserved None None = None
or_reserved (Some c) None = Some (reserved_set c)

-- whether room is made for a changed set at its key: it has records
abbrev pub is_reserved : Key → ChangedSet → Bool
is_reserved k c = not (length c.records == 0) && has_key k c

-- the set at a key, or else an empty one if a changed set with records has the key
abbrev pub reserved_at : List ChangedSet → Key → Option RecordSetValue → Option RecordSetValue
reserved_at changed k o = or_reserved (find (is_reserved k) changed) o

-- the same for one changed set, with or without records
abbrev pub one_reserved : ChangedSet → Key → Option RecordSetValue → Option RecordSetValue
one_reserved c k o = or_reserved (if has_key k c then Some c else None) o

-- ---- storing

-- the set at a key, with the records of a changed set, if there is one
abbrev pub or_stored : Option ChangedSet → Option RecordSetValue → Option RecordSetValue
or_stored None o = o
or_stored (Some c) o = with_records c.records o

-- the set at a key, with the records of the changed set that has the key, if there is one
abbrev pub stored_at : List ChangedSet → Key → Option RecordSetValue → Option RecordSetValue
stored_at changed k o = or_stored (find (has_key k) changed) o

-- the same for one changed set
abbrev pub one_stored : ChangedSet → Key → Option RecordSetValue → Option RecordSetValue
one_stored c k o = or_stored (if has_key k c then Some c else None) o

-- ---- releasing

-- whether a set is there and has no records
abbrev pub is_empty_set : Option RecordSetValue → Bool
is_empty_set None = false
is_empty_set (Some s) = length s.records == 0

-- the set at a key, unless it has no records and the key is among these
abbrev pub released_at : List Key → Key → Option RecordSetValue → Option RecordSetValue
released_at keys k o = if list_any (eq_by_cmp key_cmp k) keys && is_empty_set o then None else o

-- ---- all steps

-- the set at a key after all three steps
abbrev pub changed_at : List ChangedSet → Key → Option RecordSetValue → Option RecordSetValue
changed_at changed k o =
    released_at (changed_keys changed) k (stored_at changed k (reserved_at changed k o))

-- ---- one record

-- An update is one addition, which puts its row into a set that is there.
pub record IsSingle (zone : ZoneContent) (m : Message) (r : Record) : Type 0 where
  pub only : m.authorities ≡ r ∷ []
  pub is_put : is_put zone.rows r.dns_class r ≡ true
  pub present : has_set zone.rows r.name (type_of_record r) ≡ true
