-- The names of included files that are to be read.
use Rattle.std.specs.Prelude.{◌≡◌, ℕ, not, is_some, find, List, Option}
use Rattle.dns_zone_file.specs.Listed.{ListsNames}
use Rattle.dns_zone_file.specs.Parsing.{Includes, start_in, text_of}
use Rattle.dns_zone_file.specs.declared.types.Types.{Types}

-- the first of some names that no text has
abbrev pub first_missing : Includes → List (List ℕ) → Option (List ℕ)
first_missing includes names = find (λ name. not (is_some (text_of includes name))) names

-- the first name that a text includes and that no text has
pub record FindsMissing (types : Types) (text : List ℕ) (includes : Includes) (found : Option (List ℕ)) : Type 0 where
  pub names : List (List ℕ)
  pub lists : ListsNames (start_in types text) names
  pub first : found ≡ first_missing includes names
