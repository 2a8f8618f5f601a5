-- A script whose expectations are what its events printed.
use Rattle.std.specs.Prelude.{◌≡◌, ◌==◌, ◌-◌, ◌++◌, if◌then◌else◌, All, List, [], ◌∷◌, ℕ, codes, false, flat_map, length, map, slice_index}
use Rattle.script_expectations.specs.Line.{is_event, is_expectation}
use Rattle.script_expectations.specs.Printed.{event_lines, later_lines}

-- the expectation of a line
abbrev pub expectation : List ℕ → List ℕ
expectation line = codes "#> " ++ line

-- The lines of a script, in which each event is followed by what it printed, and no other expectation is left.
abbrev pub blessed : List (List ℕ) → List (List ℕ) → List (List ℕ)
blessed [] printed = []
blessed (line ∷ lines) printed =
    if is_event line then line ∷ (map expectation (event_lines printed) ++ blessed lines (later_lines printed))
    else if is_expectation line then blessed lines printed
    else line ∷ blessed lines printed

-- the lines of an output that no event of a script printed
abbrev pub left_over : List (List ℕ) → List (List ℕ) → List (List ℕ)
left_over [] printed = printed
left_over (line ∷ lines) printed = if is_event line then left_over lines (later_lines printed) else left_over lines printed

-- lines as a text
abbrev pub line_text : List ℕ → List ℕ
line_text line = line ++ 10 ∷ []

-- a blessed script as a text
abbrev pub blessed_text : List (List ℕ) → List (List ℕ) → List ℕ
blessed_text script printed = flat_map line_text (blessed script printed)

-- a line that a text can have: it has no line feed, and no carriage return at its end
pub record IsPlainLine (line : List ℕ) : Type 0 where
  pub no_line_feed : All (λ c. (c == 10) ≡ false) line
  pub no_return : (slice_index line (length line - 1) == 13) ≡ false
