-- The options that are given: `found` is what clap has found of the words.
use Rattle.std.specs.Prelude.{◌≡◌, ◌<◌, ◌^◌, [], List, ℕ, Bool, false, Option, Some, None, codes, option_map, unwrap_or}
use Rattle.std.specs.Str.{bytes_eq}
use Rattle.std.specs.Str.Parse.{IsNumeral, digits_value, without_leading_plus}
use Rattle.clap.specs.Matches.{first_value, matched_of, raw_values}
use Rattle.clap.specs.declared.parser.matches.Found.{Found}
use Rattle.nameserver_cli.specs.declared.ending.Ending.{Ending}
use Rattle.nameserver_cli.specs.Ending.{IsOfInvalidValue}

-- the values of an option, in order
abbrev pub values_of : Found → List ℕ → List (List ℕ)
values_of found name = unwrap_or (option_map raw_values (matched_of found name)) []

-- clap's text of an option without a value: `true` if it is given
abbrev pub is_true : Option (List ℕ) → Bool
is_true None = false
is_true (Some text) = bytes_eq text (codes "true")

-- an option without a value is given
abbrev pub is_given : Found → List ℕ → Bool
is_given found name = is_true (first_value found name)

-- the program ends since the value of an option is invalid, for a reason, or since there is no memory to say so
abbrev pub Refuses : (option reason : List ℕ) → Option (List ℕ) → Ending → Type 0
Refuses option reason None ending = ⊥
Refuses option reason (Some value) ending = IsOfInvalidValue option value reason ending

-- the text is this number of some bits: digits, before which a plus sign may stand
abbrev pub IsNumber : (bits : ℕ) → List ℕ → ℕ → Type 0
IsNumber bits text number = (IsNumeral 10 (without_leading_plus text) × (digits_value 10 (without_leading_plus text) < 2 ^ bits))
    × (number ≡ digits_value 10 (without_leading_plus text))
