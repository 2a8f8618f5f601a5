-- The lines of texts.
use Rattle.std.specs.Prelude.{ℕ, zero, suc, List, ◌∷◌, map, slice_get, Option, None, option_and_then}
use Rattle.std.specs.Borrow.{Bor}
use Rattle.std.specs.Global.{Vec}
use Rattle.std.specs.Str.Lines.{lines}
use Rattle.dns_zone_file.specs.Parsing.{Includes}
use Rattle.zone_lines.specs.Source.{FileText}
use Rattle.zone_lines.specs.declared.record_line.Position.{Position}

-- the line of a number, from 1; none has the number 0
abbrev pub line_numbered : {A : Type 0} → List A → ℕ → Option A
line_numbered lines zero = None
line_numbered lines (suc index) = slice_get lines index

-- the lines of each text of a file, in the order of their numbers
abbrev pub lines_of_all : Includes → List (List (List ℕ))
lines_of_all includes = map (λ i. lines i.1) includes

-- the lines of the file itself, and then of each text that it includes
abbrev pub lines_of_file : FileText → List (List (List ℕ))
lines_of_file file = lines file.text ∷ lines_of_all file.includes

-- the line at a place, among the lines of each text
abbrev pub line_at : List (List (List ℕ)) → Position → Option (List ℕ)
line_at texts at = option_and_then (λ lines. line_numbered lines at.line) (slice_get texts at.source)

-- the lines of texts, as the code keeps them
abbrev pub lines_view : List (Vec (Bor (List ℕ))) → List (List (List ℕ))
lines_view texts = map (λ lines. map (λ line. line.now) lines.items) texts
