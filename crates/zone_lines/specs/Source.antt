-- The texts of a zone file.
use Rattle.std.specs.Prelude.{ℕ, suc, List, [], ◌∷◌, if◌then◌else◌, Option, Some, None}
use Rattle.std.specs.Str.{bytes_eq}
use Rattle.dns_zone_file.specs.Parsing.{Includes}
use Rattle.dns_zone_file.specs.declared.types.Types.{Types}
use Rattle.dns_zone_file.specs.internal.Parsing.{includes_view}
use Rattle.zone_lines.specs.declared.source.ZoneText.{ZoneText}

-- a zone file: its text, those to include by name, and the types that it may have
pub record FileText : Type 0 where
  pub text : List ℕ
  pub includes : Includes
  pub types : Types

-- the text, the files that it includes and the types, as a call finds them
abbrev pub text_view : ZoneText → FileText
text_view t = record { text = t.text.now; includes = includes_view t.includes.now; types = t.types }

-- a text of a file, by its number: 0 is that of the file itself, and n the n-th of those to include
pub record Source : Type 0 where
  pub number : ℕ
  pub text : List ℕ

-- the first text of a name, of some that are numbered from a number on
abbrev pub source_from : ℕ → Includes → List ℕ → Option Source
source_from number [] name = None
source_from number (i ∷ rest) name =
    if bytes_eq i.0 name then Some (record { number = number; text = i.1 }) else source_from (suc number) rest name

-- the text of a name among those to include, the first of several; they are numbered from 1
abbrev pub source_of : Includes → List ℕ → Option Source
source_of includes name = source_from 1 includes name
