-- The words of a line.
use Rattle.std.specs.Prelude.{◌<◌, ℕ, List, length}
use Rattle.std.specs.Char.{is_ascii_whitespace}
use Rattle.std.specs.Str.Iter.{HasSubslice, NoAsciiPasses}

-- a word of a text: a part of it that is not empty and has no blank
abbrev pub IsWordOf : List ℕ → List ℕ → Type 0
IsWordOf text word = (0 < length word) × NoAsciiPasses is_ascii_whitespace word × HasSubslice text word
