-- Items that wait for their moment.
use Rattle.std.specs.Prelude.{◌+◌, ◌||◌, nat_lt, nat_le, if◌then◌else◌, Bool, false, List, [], ◌∷◌, ℕ, length, Option, Some, None}

-- an item, and the moment at which it is due
pub record Waiting (T : Type 0) : Type 0 where
  pub moment : ℕ
  pub item : T

-- What contracts see of a schedule: the items in the order in which they come out, how many it may hold, and how many were
-- pushed so far.
pub record ScheduleContent (T : Type 0) : Type 0 where
  pub items : List (Waiting T)
  pub capacity : ℕ
  pub pushed : ℕ

-- The items with another one: it comes after those whose moment is the same or earlier, and before the others.
abbrev pub inserted : {T : Type 0} → Waiting T → List (Waiting T) → List (Waiting T)
inserted w [] = w ∷ []
inserted w (x ∷ xs) = if nat_lt w.moment x.moment then w ∷ x ∷ xs else x ∷ inserted w xs

-- whether no item can be inserted: as many wait as there may, or 2^64 - 1 were pushed
abbrev pub is_full : {T : Type 0} → ScheduleContent T → Bool
is_full s = nat_le s.capacity (length s.items) || nat_le 18446744073709551615 s.pushed

-- the schedule with another item
abbrev pub scheduled : {T : Type 0} → ScheduleContent T → ℕ → T → ScheduleContent T
scheduled s moment item =
    record s { items = inserted (record { moment = moment; item = item }) s.items; pushed = s.pushed + 1 }

-- the moment of the first item
abbrev pub first_moment : {T : Type 0} → List (Waiting T) → Option ℕ
first_moment [] = None
first_moment (x ∷ xs) = Some x.moment

-- whether the moment of the first item has come
abbrev pub is_due : {T : Type 0} → ℕ → List (Waiting T) → Bool
is_due now [] = false
is_due now (x ∷ xs) = nat_le x.moment now

-- the first item, if its moment has come
abbrev pub due : {T : Type 0} → ℕ → List (Waiting T) → Option T
due now [] = None
due now (x ∷ xs) = if nat_le x.moment now then Some x.item else None

-- the items that are left after the first, if its moment has come
abbrev pub left_at : {T : Type 0} → ℕ → List (Waiting T) → List (Waiting T)
left_at now [] = []
left_at now (x ∷ xs) = if nat_le x.moment now then xs else x ∷ xs

-- the items whose moment has come, in order
abbrev pub all_due : {T : Type 0} → ℕ → List (Waiting T) → List T
all_due now [] = []
all_due now (x ∷ xs) = if nat_le x.moment now then x.item ∷ all_due now xs else []

-- the items that are left after these
abbrev pub all_left : {T : Type 0} → ℕ → List (Waiting T) → List (Waiting T)
all_left now [] = []
all_left now (x ∷ xs) = if nat_le x.moment now then all_left now xs else x ∷ xs
