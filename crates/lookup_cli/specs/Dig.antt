-- Words that `dig` takes for something else than a name.
use Rattle.std.specs.Prelude.{◌==◌, ◌&&◌, nat_le, not, if◌then◌else◌, Bool, false, List, [], ◌∷◌, ℕ, Option, Some, None, is_some}
use Rattle.std.specs.List.{list_any}
use Rattle.dns_fields.specs.bitmaps.TypeWord.{type_of_word}
use Rattle.lookup_cli.specs.declared.dig.DigWord.{DigWord}
use Rattle.lookup_cli.specs.declared.dig.DigWord.TheVariants.{NameServer, RecordType}

-- whether a byte is a lower-case letter
abbrev pub is_lower_case : ℕ → Bool
is_lower_case byte = nat_le 97 byte && nat_le byte 122

-- whether a word is a type without a lower-case letter
abbrev pub is_type_in_capitals : List ℕ → Bool
is_type_in_capitals word = is_some (type_of_word word) && not (list_any is_lower_case word)

-- whether a word begins with `@`
abbrev pub begins_with_at : List ℕ → Bool
begins_with_at [] = false
begins_with_at (first ∷ rest) = first == 64

-- what a word means in the arguments of `dig`, alone or beside other names, if it is no name there
abbrev pub dig_word : List ℕ → Bool → Option DigWord
dig_word word is_alone =
    if begins_with_at word then Some NameServer
    else if not is_alone && is_type_in_capitals word then Some RecordType
    else None
