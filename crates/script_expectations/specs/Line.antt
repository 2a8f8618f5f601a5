-- The lines of a script: events, expectations, and lines that are neither.
use Rattle.std.specs.Prelude.{◌==◌, ◌+◌, ◌&&◌, ◌||◌, if◌then◌else◌, not, Bool, false, List, [], ◌∷◌, ℕ, codes, drop, find, map, take, Option, None, Some}
use Rattle.std.specs.Option.{option_map_or}
use Rattle.std.specs.Borrow.{Bor}
use Rattle.std.specs.Str.{bytes_eq}

-- the texts of lines
abbrev pub texts : List (Bor (List ℕ)) → List (List ℕ)
texts lines = map (λ line. line.now) lines

-- a space or a tab
abbrev pub is_blank : ℕ → Bool
is_blank c = c == 32 || c == 9

-- the first character of a line that is not a blank
abbrev pub first_mark : List ℕ → Option ℕ
first_mark line = find (λ c. not (is_blank c)) line

-- whether a line has an event: its first character that is not a blank begins no comment
abbrev pub is_event : List ℕ → Bool
is_event line = option_map_or (λ c. not (c == 35)) (first_mark line) false

-- whether a line is an expectation
abbrev pub is_expectation : List ℕ → Bool
is_expectation line = bytes_eq (take 3 line) (codes "#> ")

-- a line without the blanks at its start
abbrev pub unindented : List ℕ → List ℕ
unindented [] = []
unindented (c ∷ cs) = if is_blank c then unindented cs else c ∷ cs

-- whether a line has blanks before the mark of an expectation
abbrev pub is_indented : List ℕ → Bool
is_indented line = not (is_expectation line) && is_expectation (unindented line)

-- the first line that has blanks before the mark, by its number
abbrev pub first_indented : ℕ → List (List ℕ) → Option ℕ
first_indented number [] = None
first_indented number (line ∷ lines) = if is_indented line then Some number else first_indented (number + 1) lines

-- The lines that are expected of an event, from the script's lines after it: those of the expectations before the next event.
abbrev pub expected_lines : List (List ℕ) → List (List ℕ)
expected_lines [] = []
expected_lines (line ∷ lines) =
    if is_event line then []
    else if is_expectation line then drop 3 line ∷ expected_lines lines
    else expected_lines lines

-- a script without its expectations
abbrev pub without_expectations : List (List ℕ) → List (List ℕ)
without_expectations [] = []
without_expectations (line ∷ lines) = if is_expectation line then without_expectations lines else line ∷ without_expectations lines
