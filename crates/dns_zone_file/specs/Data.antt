-- The data of records in zone files: of the types with fields alone, or of all types and in the generic form (RFC 3597
-- section 5).
use Rattle.std.specs.Prelude.{◌≡◌, ◌<◌, ℕ, ◌==◌, ◌&&◌, ◌||◌, not, nat_le, is_some, if◌then◌else◌, Bool, true, false, List, [], ◌∷◌, length, Option, Some, None, Result, Ok, Err}
use Rattle.dns_wire.specs.codes.RecordType.{type_number}
use Rattle.dns_wire.specs.declared.codes.record_type.RecordType.{RecordType}
use Rattle.dns_wire.specs.declared.error.DecodeError.{DecodeError}
use Rattle.dns_names.specs.Name.{DomainName}
use Rattle.dns_text.specs.Lexer.{Lexeme}
use Rattle.dns_formats.specs.Data.{is_generic, data_bytes}
use Rattle.dns_formats.specs.Field.{fields_of}
use Rattle.dns_formats.specs.Wire.{fits}
use Rattle.dns_formats.specs.declared.fault.FormatFault.{FormatFault}
use Rattle.dns_formats.specs.declared.fault.FormatFault.TheVariants.{NotOfType}
use Rattle.dns_formats.specs.declared.field.Field.{Field}
use Rattle.dns_formats.specs.declared.field.Field.TheVariants.{Number16, Number32, Name}
use Rattle.dns_data.specs.declared.error.RDataParseError.{RDataParseError}
use Rattle.dns_data.specs.declared.rdata.RData.{RData}
use Rattle.dns_data.specs.rdata.{IsParsedData, RefusesText, ReadsData, RefusesData}
use Rattle.dns_zone_file.specs.declared.error.EntryFault.{EntryFault}
use Rattle.dns_zone_file.specs.declared.error.EntryFault.TheVariants as fault
use Rattle.dns_zone_file.specs.declared.types.Types.{Types}
use Rattle.dns_zone_file.specs.declared.types.Types.TheVariants.{Nine, All}

-- ---- data that is read as bytes

-- the types that no record of a zone has: 0, OPT, and those of queries and messages alone (RFC 6891 section 6.1.1, RFC 6895
-- section 3.1)
abbrev pub is_meta_type : ℕ → Bool
is_meta_type number = number == 0 || number == 41 || (nat_le 128 number && nat_le number 255)

-- whether the tokens of data are read as bytes: in the generic form, or by the fields of the type
abbrev pub has_bytes : ℕ → List Lexeme → Bool
has_bytes number tokens = not (is_meta_type number) && (is_generic tokens || is_some (fields_of number))

-- those bytes, or the first fault of the tokens
abbrev pub bytes_of : DomainName → RecordType → List Lexeme → Result (List ℕ) FormatFault
bytes_of origin record_type tokens = data_bytes (Some origin) (fields_of (type_number record_type)) tokens

-- The fields of a type whose names messages compress. In other places its names are not compressed (RFC 3597 section 4).
abbrev pub plain_fields : ℕ → Option (List Field)
plain_fields number =
    if number == 2 || number == 5 || number == 12 then Some (Name ∷ [])
    else if number == 6 then Some (Name ∷ Name ∷ Number32 ∷ Number32 ∷ Number32 ∷ Number32 ∷ Number32 ∷ [])
    else if number == 15 then Some (Number16 ∷ Name ∷ [])
    else if number == 33 then Some (Number16 ∷ Number16 ∷ Number16 ∷ Name ∷ [])
    else None

-- whether no name in the bytes of data is compressed
abbrev pub is_plain : ℕ → List ℕ → Bool
is_plain number bytes = elim (plain_fields number) [ Some fields ↦ fits fields bytes | None ↦ true ]

-- The data that bytes are, as decoding them gives it. A record without data is one of an update (RFC 2136 section 2.4).
pub record IsDataOf (record_type : RecordType) (bytes : List ℕ) (d : RData) : Type 0 where
  pub filled : 0 < length bytes
  pub plain : is_plain (type_number record_type) bytes ≡ true
  pub decoded : ReadsData bytes 0 record_type (length bytes) d

-- why bytes are no data of a type
pub data RefusesBytes (record_type : RecordType) (bytes : List ℕ) : EntryFault → Type 0 where
  no_bytes : bytes ≡ [] → RefusesBytes record_type bytes fault.NoData
  compressed : 0 < length bytes → is_plain (type_number record_type) bytes ≡ false
      → RefusesBytes record_type bytes (fault.InvalidFormat NotOfType)
  not_decoded : (error : DecodeError) → 0 < length bytes → is_plain (type_number record_type) bytes ≡ true
      → RefusesData bytes 0 record_type (length bytes) error → RefusesBytes record_type bytes (fault.InvalidFormat NotOfType)

-- ---- data of any type

-- the data of a record of any type
pub data IsAnyData (origin : DomainName) (record_type : RecordType) (tokens : List Lexeme) (d : RData) : Type 0 where
  in_values : has_bytes (type_number record_type) tokens ≡ false → IsParsedData (Some origin) record_type tokens d
      → IsAnyData origin record_type tokens d
  in_bytes : (bytes : List ℕ) → has_bytes (type_number record_type) tokens ≡ true
      → bytes_of origin record_type tokens ≡ Ok bytes → IsDataOf record_type bytes d → IsAnyData origin record_type tokens d

-- the first fault of the tokens of data of any type
pub data RefusesAny (origin : DomainName) (record_type : RecordType) (tokens : List Lexeme) : EntryFault → Type 0 where
  bad_values : {error : RDataParseError} → has_bytes (type_number record_type) tokens ≡ false
      → RefusesText (Some origin) record_type tokens error → RefusesAny origin record_type tokens (fault.InvalidData error)
  bad_format : {error : FormatFault} → has_bytes (type_number record_type) tokens ≡ true
      → bytes_of origin record_type tokens ≡ Err error → RefusesAny origin record_type tokens (fault.InvalidFormat error)
  bad_bytes : {refusal : EntryFault} (bytes : List ℕ) → has_bytes (type_number record_type) tokens ≡ true
      → bytes_of origin record_type tokens ≡ Ok bytes → RefusesBytes record_type bytes refusal
      → RefusesAny origin record_type tokens refusal

-- ---- data of the types that a zone file may have

-- the data of a record of a type
abbrev pub ReadsIn : Types → DomainName → RecordType → List Lexeme → RData → Type 0
ReadsIn Nine origin record_type tokens d = IsParsedData (Some origin) record_type tokens d
ReadsIn All origin record_type tokens d = IsAnyData origin record_type tokens d

-- the fault of data of a type with fields
abbrev pub RefusesValues : DomainName → RecordType → List Lexeme → EntryFault → Type 0
RefusesValues origin record_type tokens (fault.InvalidData error) = RefusesText (Some origin) record_type tokens error
RefusesValues origin record_type tokens other = ⊥

-- the first fault of the tokens of data of a type
abbrev pub RefusesIn : Types → DomainName → RecordType → List Lexeme → EntryFault → Type 0
RefusesIn Nine origin record_type tokens refusal = RefusesValues origin record_type tokens refusal
RefusesIn All origin record_type tokens refusal = RefusesAny origin record_type tokens refusal
