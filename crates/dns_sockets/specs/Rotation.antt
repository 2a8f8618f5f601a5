-- In which order the connections of a table have their turns.
use Rattle.std.specs.Prelude.{◌≡◌, ◌+◌, ◌<◌, ◌≤◌, ◌⊎◌, nat_lt, if◌then◌else◌, true, ⊤, ℕ, zero, suc, List, [], ◌∷◌, Option, Some}
use Rattle.dns_sockets.specs.Stream.{deadline, later_by}
use Rattle.dns_sockets.specs.Trace.{Act, At, EndsWith, StartsWith}
use Rattle.dns_sockets.specs.World.{Clocked}
use Rattle.dns_sockets.specs.declared.stream.Stream.{Stream}

-- the place whose turn comes, of so many: the one that is the first, or the place 0 if there is none such
abbrev pub next_place : ℕ → ℕ → ℕ
next_place count first = if nat_lt first count then first else 0

-- which place is the first after so many turns
abbrev pub first_after : ℕ → ℕ → ℕ → ℕ
first_after zero count first = first
first_after (suc turns) count first = first_after turns count (next_place count first + 1)

-- the places that have their turns, one after another, where there are so many places at each turn
abbrev pub places_of : ℕ → List ℕ → List ℕ
places_of first [] = []
places_of first (count ∷ counts) = next_place count first ∷ places_of (next_place count first + 1) counts

-- there is a place, and there are at most so many
abbrev pub IsPlaceOf : ℕ → ℕ → ℕ → Type 0
IsPlaceOf place most count = (place < count) × (count ≤ most)

-- the connection at a place of a table, if there is one, has nothing to do at a moment
abbrev pub IsIdleAt : ℕ → Option (Option Stream) → Type 0
IsIdleAt now (Some (Some stream)) = now < deadline stream
IsIdleAt now slot = ⊤

-- the same, or it is to go on again at once
abbrev pub HasGoneOn : ℕ → Option (Option Stream) → Type 0
HasGoneOn now (Some (Some stream)) = (stream.wants_turn ≡ true) ⊎ (now < deadline stream)
HasGoneOn now slot = ⊤

-- the connection at a place was last active when it was before, if it is still there
abbrev pub IsAsActive : Option (Option Stream) → Option (Option Stream) → Type 0
IsAsActive (Some (Some old)) (Some (Some new)) = new.last_activity ≡ old.last_activity
IsAsActive old new = ⊤

-- So many turns are all of a table with so many places, or the clock, which was read before the first of them, showed that five milliseconds
-- had passed after the last.
abbrev pub HasShare : ℕ → ℕ → List Act → Type 0
HasShare turns count acts =
    (start : ℕ) × (StartsWith (At (Clocked (Some start))) acts × ((turns ≡ count)
    ⊎ ((end : ℕ) × ((later_by start 5 ≤ end) × EndsWith (At (Clocked (Some end))) acts))))
