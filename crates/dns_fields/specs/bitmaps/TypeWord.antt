-- Record types by their names in zone files, and other numbers by their mnemonics.
use Rattle.std.specs.Prelude.{ℕ, ◌==◌, if◌then◌else◌, List, [], ◌∷◌, Option, Some, None, map}
use Rattle.std.specs.Str.{str_eq_ignore_ascii_case}
use Rattle.dns_wire.specs.codes.CodeText.{type_text, type_of_text, or_else}
use Rattle.dns_wire.specs.codes.RecordType.{type_of}
use Rattle.dns_wire.specs.declared.codes.record_type.RecordType.{RecordType}
use Rattle.dns_fields.specs.declared.bitmaps.type_word.TheConstants.{TYPES}

-- the number of a mnemonic, in any case, in a table
abbrev pub number_among : List (List ℕ × ℕ) → List ℕ → Option ℕ
number_among [] text = None
number_among (line ∷ lines) text = if str_eq_ignore_ascii_case line.0 text then Some line.1 else number_among lines text

-- the first mnemonic of a number in a table
abbrev pub name_among : List (List ℕ × ℕ) → ℕ → Option (List ℕ)
name_among [] number = None
name_among (line ∷ lines) number = if line.1 == number then Some line.0 else name_among lines number

-- the types that `RecordType` has no name for, a table that the code has
abbrev pub other_types : List (List ℕ × ℕ)
other_types = map (λ line. (line.0.now, line.1)) TYPES.now

-- the type with a number, if there is one
abbrev pub type_with : Option ℕ → Option RecordType
type_with None = None
type_with (Some number) = Some (type_of number)

-- the type that a word names: by a name of `RecordType`, or `TYPE` and a number, or another name of the registry
abbrev pub type_of_word : List ℕ → Option RecordType
type_of_word text = or_else (type_of_text text) (type_with (number_among other_types text))

-- a name of the registry, or else the text of `RecordType`
abbrev pub name_or_text : Option (List ℕ) → ℕ → List ℕ
name_or_text None number = type_text (type_of number)
name_or_text (Some name) number = name

-- the word for the type with a number
abbrev pub word_of_type : ℕ → List ℕ
word_of_type number = name_or_text (name_among other_types number) number
