-- Compression pointers that lead to compression pointers (RFC 1035 section 4.1.4).
use Rattle.std.specs.Prelude.{◌≡◌, ℕ, ◌<◌, ◌≤◌, List, length, get_or, min, Ok}
use Rattle.dns_wire.specs.Element.{Pointer, element_at}

-- Follows buffer place end: from the place on, each pointer leads to an earlier place, and the end is the first place
-- without such a pointer.
pub data Follows (buffer : List ℕ) : ℕ → ℕ → Type 0 where
  at_end : {place : ℕ} → ((target : ℕ) → element_at buffer place ≡ Ok (Pointer target) → place ≤ target)
      → Follows buffer place place
  past_link : {place target end : ℕ} → element_at buffer place ≡ Ok (Pointer target) → target < place
      → Follows buffer target end → Follows buffer place end

-- These are the ends of the chains of pointers from the places of a buffer, from its first on.
abbrev pub AreEnds : List ℕ → List ℕ → Type 0
AreEnds buffer ends =
    (place : ℕ) → place < length ends → Follows buffer place (get_or ends place 0) × (get_or ends place 0 ≤ place)

-- A table has an end for each place that a pointer can lead to: its 14 bits are less than 16,384.
pub record IsTableOf (buffer ends : List ℕ) : Type 0 where
  pub covers : length ends ≡ min (length buffer) 16384
  pub ends_are : AreEnds buffer ends
