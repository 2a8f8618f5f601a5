-- The types that words name.
use Rattle.std.specs.Prelude.{List, ℕ, Option}
use Rattle.dns_fields.specs.bitmaps.TypeWord.{type_of_word}
use Rattle.dns_wire.specs.codes.CodeText.{type_of_text}
use Rattle.dns_wire.specs.declared.codes.record_type.RecordType.{RecordType}
use Rattle.dns_zone_file.specs.declared.types.Types.{Types}
use Rattle.dns_zone_file.specs.declared.types.Types.TheVariants.{Nine, All}

-- The type that a word names: by a name of `RecordType`, or by `TYPE` and a number (RFC 3597 section 5); among all types also by
-- another name of the registry.
abbrev pub type_named : Types → List ℕ → Option RecordType
type_named Nine text = type_of_text text
type_named All text = type_of_word text
