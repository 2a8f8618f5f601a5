-- The lines that the events of a script printed: each event prints a line, and more that begin with two spaces.
use Rattle.std.specs.Prelude.{◌+◌, if◌then◌else◌, Bool, List, [], ◌∷◌, ℕ, codes, drop, take}
use Rattle.std.specs.Str.{bytes_eq}

-- whether a line goes on with what an event printed
abbrev pub is_continued : List ℕ → Bool
is_continued line = bytes_eq (take 2 line) (codes "  ")

-- how many lines at the start of an output go on with what an event printed
abbrev pub continued_len : List (List ℕ) → ℕ
continued_len [] = 0
continued_len (line ∷ lines) = if is_continued line then continued_len lines + 1 else 0

-- how many lines the first event printed
abbrev pub event_len : List (List ℕ) → ℕ
event_len [] = 0
event_len (line ∷ lines) = continued_len lines + 1

-- the lines that the first event printed
abbrev pub event_lines : List (List ℕ) → List (List ℕ)
event_lines printed = take (event_len printed) printed

-- the lines that the later events printed
abbrev pub later_lines : List (List ℕ) → List (List ℕ)
later_lines printed = drop (event_len printed) printed
