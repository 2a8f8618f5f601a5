-- How the data of each type is written in a zone file.
use Rattle.std.specs.Prelude.{◌==◌, if◌then◌else◌, ℕ, List, [], ◌∷◌, map, Option, Some, None}
use Rattle.zone_check.specs.declared.findings.form_text.TheConstants.{FORMS}

-- how the data of the type with a number is written, by a table
abbrev pub form_among : List (ℕ × List ℕ) → ℕ → Option (List ℕ)
form_among [] number = None
form_among (line ∷ lines) number = if line.0 == number then Some line.1 else form_among lines number

-- the table, which the code has
abbrev pub data_forms : List (ℕ × List ℕ)
data_forms = map (λ line. (line.0, line.1.now)) FORMS.now

-- how the data of the type with a number is written
abbrev pub form_of : ℕ → Option (List ℕ)
form_of number = form_among data_forms number
