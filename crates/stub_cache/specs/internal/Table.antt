-- A table of entries in slots, with an index of questions and a timeline.
use Rattle.std.specs.Prelude.{◌≡◌, ◌≢◌, ◌<◌, ℕ, Bool, false, ◌==◌, ◌&&◌, List, [], ◌∷◌, Option, Some, None, option_map}
use Rattle.std.specs.Ordering.{nat_cmp, ordering_then}
use Rattle.std.specs.BTreeMap as tree
use Rattle.std.specs.Map.{values_of, remove_entry}
use Rattle.std.specs.BTreeSet as sorted
use Rattle.std.specs.HashMap as hash
use Rattle.std.specs.Str.{bytes_eq}
use Rattle.std.specs.declared.cmp.Ordering.{Ordering}
use Rattle.std.specs.declared.vec.Vec.{Vec}
use Rattle.slab.specs.Slab as slab
use Rattle.stub_cache.specs.internal.Key.{key_of}
use Rattle.stub_cache.specs.declared.cache.entry.Entry.{Entry}
use Rattle.stub_cache.specs.declared.cache.table.EntryTable.{EntryTable}

-- deadlines with stamps and slots: the earliest deadline comes first, of equal ones the oldest stamp
abbrev pub due_cmp : ℕ × ℕ × ℕ → ℕ × ℕ × ℕ → Ordering
due_cmp p q = ordering_then (ordering_then (nat_cmp p.0 q.0) (nat_cmp p.1 q.1)) (nat_cmp p.2 q.2)

-- the entries of some slots with their stamps, the oldest first
abbrev pub by_stamp : List (Option (ℕ × Entry)) → List (ℕ × Entry)
by_stamp [] = []
by_stamp (None ∷ slots) = by_stamp slots
by_stamp (Some p ∷ slots) = tree.insert_entry nat_cmp (by_stamp slots) p.0 p.1

-- the entries with their stamps, the oldest first
abbrev pub stamped : EntryTable → List (ℕ × Entry)
stamped t = by_stamp t.slots.slots

-- the entries, the oldest first
abbrev pub entries_of : EntryTable → List Entry
entries_of t = values_of (stamped t)

-- the entry in a slot, with its stamp
abbrev pub stored_at : EntryTable → ℕ → Option (ℕ × Entry)
stored_at t slot = slab.get t.slots slot

-- entries with their stamps, without one, if there is one
abbrev pub without : Option (ℕ × Entry) → List (ℕ × Entry) → List (ℕ × Entry)
without None entries = entries
without (Some p) entries = remove_entry (tree.is_at (nat_cmp p.0)) entries

-- the entries without the one in a slot
abbrev pub entries_without : Option ℕ → EntryTable → List Entry
entries_without None t = entries_of t
entries_without (Some slot) t = values_of (without (stored_at t slot) (stamped t))

-- the slot that an index of questions has for a key
abbrev pub slot_in : {Y S : Type 0} → hash.HashMap (Vec ℕ Y) ℕ S → List ℕ → Option ℕ
slot_in index key = hash.get_by (λ k. bytes_eq key k.items) index

-- the slot to which a key leads
abbrev pub slot_at : EntryTable → List ℕ → Option ℕ
slot_at t key = slot_in t.index key

-- whether the timeline has a slot, at a deadline and with a stamp
abbrev pub is_due : EntryTable → ℕ → ℕ → ℕ → Bool
is_due t deadline stamp slot = sorted.contains due_cmp t.timeline (deadline, stamp, slot)

-- whether there is an entry, with a deadline and a stamp
abbrev pub is_dated : ℕ → ℕ → Option (ℕ × Entry) → Bool
is_dated deadline stamp None = false
is_dated deadline stamp (Some p) = p.1.deadline == deadline && p.0 == stamp

-- The indexes of a table have its entries and nothing else. Stamps differ, and are below the next one. An entry that leaves
-- may be missing from the index of questions.
pub record IsIndexed (leaving : Option ℕ) (t : EntryTable) : Type 0 where
  -- a key leads to the slot of an entry for it
  pub sound : (key : List ℕ) (slot : ℕ) → slot_at t key ≡ Some slot
      → option_map (λ p. key_of p.1.question) (stored_at t slot) ≡ Some key
  -- the key of an entry leads to its slot
  pub known : (slot : ℕ) (p : ℕ × Entry) → stored_at t slot ≡ Some p → leaving ≢ Some slot
      → slot_at t (key_of p.1.question) ≡ Some slot
  -- each entry is in the timeline, and nothing else
  pub timely : (deadline stamp slot : ℕ) → is_due t deadline stamp slot ≡ is_dated deadline stamp (stored_at t slot)
  -- no entry has the next stamp or a later one
  pub fresh : (slot : ℕ) (p : ℕ × Entry) → stored_at t slot ≡ Some p → p.0 < t.next_stamp
  -- no two entries have the same stamp
  pub distinct : (slot other : ℕ) (p q : ℕ × Entry) → stored_at t slot ≡ Some p → stored_at t other ≡ Some q
      → p.0 ≡ q.0 → slot ≡ other
