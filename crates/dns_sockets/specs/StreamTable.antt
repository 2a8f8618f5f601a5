-- Which connection of a table leaves for another, and which of them have replies of several messages that wait.
use Rattle.std.specs.Prelude.{◌≡◌, ◌==◌, ◌&&◌, ◌<◌, ◌≤◌, ◌⊎◌, ◌++◌, ◌∷◌, [], nat_lt, not, length, option_map, position, is_none, zero, suc, vec_capacity, Bool, true, false, List, ℕ, Option, Some, None, IsSomeAnd, slice_get, slice_set}
use Rattle.std.specs.List.{filter}
use Rattle.dns_sockets.specs.Stream.{noted}
use Rattle.dns_sockets.specs.World.{WorldEvent, Closed}
use Rattle.dns_sockets.specs.declared.stream.Stream.{Stream}
use Rattle.dns_sockets.specs.declared.stream_table.StreamTable.{StreamTable}

-- whether a connection was last active before another, or there is no other
abbrev pub is_less_active : Option Stream → Option Stream → Bool
is_less_active (Some stream) (Some other) = nat_lt stream.last_activity other.last_activity
is_less_active (Some stream) None = true
is_less_active None other = false

-- No connection was last active before the one at an index.
abbrev pub IsLeastActive : List (Option Stream) → ℕ → Type 0
IsLeastActive slots index =
    (other : ℕ) (slot : Option Stream) → slice_get slots other ≡ Some slot
    → IsSomeAnd (slice_get slots index) (λ least. is_less_active slot least ≡ false)

-- the table without the connection at an index
abbrev pub closed_at : List (Option Stream) → ℕ → List (Option Stream)
closed_at slots index = slice_set slots index None

-- the table once the system says what the connection at an index is ready for, if there is one
abbrev pub noted_at : List (Option Stream) → ℕ → Bool → Bool → List (Option Stream)
noted_at [] index is_readable is_writable = []
noted_at (slot ∷ slots) zero is_readable is_writable = option_map (noted is_readable is_writable) slot ∷ slots
noted_at (slot ∷ slots) (suc index) is_readable is_writable = slot ∷ noted_at slots index is_readable is_writable

-- ---- places

-- the first place without a connection, if there is one
abbrev pub free_place : List (Option Stream) → Option ℕ
free_place slots = position is_none slots

-- a table takes no further place: it has as many as it may, or more memory would be needed
abbrev pub IsFull : StreamTable → Type 0
IsFull t = (t.capacity ≤ length t.slots.items) ⊎ (vec_capacity t.slots ≤ length t.slots.items)

-- a table may have as many places as before, and the same place has the next turn
pub record KeepsTurns (old new : StreamTable) : Type 0 where
  pub capacity : new.capacity ≡ old.capacity
  pub first : new.first ≡ old.first

-- How a table gets a place without a connection, with these events: it has one, or takes a further one, or is full. Then the connection that was
-- active least recently is closed, and no other one; a table without any has no place then.
pub data Vacates (old new : StreamTable) (es : List WorldEvent) (place : Option ℕ) : Type 0 where
  has_one : (index : ℕ) → free_place old.slots.items ≡ Some index → place ≡ Some index → es ≡ [] → new.slots.items ≡ old.slots.items → Vacates old new es place
  adds_one : free_place old.slots.items ≡ None → place ≡ Some (length old.slots.items) → es ≡ [] → new.slots.items ≡ old.slots.items ++ None ∷ []
      → Vacates old new es place
  closes_one : (index : ℕ) → free_place old.slots.items ≡ None → IsFull old → IsLeastActive old.slots.items index → index < length old.slots.items
      → place ≡ Some index → es ≡ Closed index ∷ [] → new.slots.items ≡ closed_at old.slots.items index → Vacates old new es place
  has_none : IsFull old → old.slots.items ≡ [] → place ≡ None → es ≡ [] → new.slots.items ≡ [] → Vacates old new es place

-- ---- replies of several messages

-- whether messages of a reply with several wait to be written
abbrev pub is_transferring : Stream → Bool
is_transferring s = s.is_transferring && not (length s.held.items == 0)

-- the same for a slot, which may be without a connection
abbrev pub has_transfer : Option Stream → Bool
has_transfer None = false
has_transfer (Some stream) = is_transferring stream

-- how many connections have a reply of several messages that waits
abbrev pub transfers : List (Option Stream) → ℕ
transfers slots = length (filter has_transfer slots)
