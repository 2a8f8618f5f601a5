-- How a schedule is stored: by moment, and by a number that counts insertions.
use Rattle.std.specs.Prelude.{◌<◌, List, ℕ, map}
use Rattle.std.specs.List.{AllByRecursion}
use Rattle.dns_sockets.specs.schedule.Schedule.{Waiting}

-- the item of an entry, whose key is its moment and its number
abbrev pub waiting_entry : {T : Type 0} → ((ℕ × ℕ) × T) → Waiting T
waiting_entry e = record { moment = e.0.0; item = e.1 }

-- the items of entries
abbrev pub waiting_of : {T : Type 0} → List ((ℕ × ℕ) × T) → List (Waiting T)
waiting_of es = map waiting_entry es

-- each number is below the next one
abbrev pub AreBelow : {T : Type 0} → ℕ → List ((ℕ × ℕ) × T) → Type 0
AreBelow next es = AllByRecursion (λ e. e.0.1 < next) es
