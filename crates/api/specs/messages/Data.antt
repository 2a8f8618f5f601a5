-- Record data of a text (RFC 1035 section 5.1, RFC 3597 section 5).
use Rattle.std.specs.Prelude.{◌≡◌, ◌≢◌, ◌<◌, ◌==◌, ◌&&◌, ◌||◌, nat_le, Bool, true, false, IsUtf8, List, [], ℕ, length, Some, Ok, Err}
use Rattle.dns_wire.specs.codes.RecordType.{type_number}
use Rattle.dns_wire.specs.declared.codes.record_type.RecordType.{RecordType}
use Rattle.dns_data.specs.declared.error.RDataParseError.{RDataParseError}
use Rattle.dns_data.specs.declared.error.RDataParseError.TheVariants.{UnsupportedRecordType}
use Rattle.dns_data.specs.declared.rdata.RData.{RData}
use Rattle.dns_data.specs.declared.rdata.RData.TheVariants as of
use Rattle.dns_data.specs.rdata.{IsParsedData, RefusesText}
use Rattle.dns_formats.specs.Data.{data_bytes}
use Rattle.dns_formats.specs.Field.{fields_of}
use Rattle.dns_formats.specs.declared.fault.FormatFault.{FormatFault}
use Rattle.dns_names.specs.Name.{DomainName}
use Rattle.dns_text.specs.Lexer.{Lexeme}
use Rattle.api.specs.declared.buffer.refusal.Refusal.{Refusal}
use Rattle.api.specs.declared.buffer.refusal.Refusal.TheVariants as refusal
use Rattle.api.specs.messages.Tokens.{AreTokensOf, HasNoTokens}

-- the types that no record of a zone has: 0, OPT, and those of queries and messages alone (RFC 6891 section 6.1.1, RFC 6895
-- section 3.1)
abbrev pub is_meta_type : ℕ → Bool
is_meta_type number = number == 0 || number == 41 || (nat_le 128 number && nat_le number 255)

-- the bytes of the data of a type that tokens are, whose relative names end in the zone's
abbrev pub AreBytes : DomainName → RecordType → List Lexeme → List ℕ → Type 0
AreBytes zone kind tokens bytes = data_bytes (Some zone) (fields_of (type_number kind)) tokens ≡ Ok bytes

-- bytes that are no data of a record: none, or too many (RFC 1035 section 3.2.1)
pub data AreNoData (bytes : List ℕ) : Type 0 where
  none : bytes ≡ [] → AreNoData bytes
  too_many : 65535 < length bytes → AreNoData bytes

-- data that is written as bytes, without fields
pub record IsOpaque (zone : DomainName) (kind : RecordType) (tokens : List Lexeme) (d : RData) : Type 0 where
  pub stored : is_meta_type (type_number kind) ≡ false
  pub bytes : List ℕ
  pub are : AreBytes zone kind tokens bytes
  pub some : 0 < length bytes
  pub data_is : d ≡ of.Unknown kind bytes

-- why tokens are no such data
pub data IsNotOpaque (zone : DomainName) (kind : RecordType) (tokens : List Lexeme) : Type 0 where
  not_stored : is_meta_type (type_number kind) ≡ true → IsNotOpaque zone kind tokens
  no_bytes : (fault : FormatFault) → data_bytes (Some zone) (fields_of (type_number kind)) tokens ≡ Err fault
      → IsNotOpaque zone kind tokens
  no_data : (bytes : List ℕ) → AreBytes zone kind tokens bytes → AreNoData bytes → IsNotOpaque zone kind tokens

-- the data of a type that tokens are
pub data IsData (zone : DomainName) (kind : RecordType) (tokens : List Lexeme) (d : RData) : Type 0 where
  in_fields : IsParsedData (Some zone) kind tokens d → IsData zone kind tokens d
  in_bytes : RefusesText (Some zone) kind tokens UnsupportedRecordType → IsOpaque zone kind tokens d → IsData zone kind tokens d

-- why tokens are no data of a type
pub data IsNoData (zone : DomainName) (kind : RecordType) (tokens : List Lexeme) : Type 0 where
  not_in_fields : (error : RDataParseError) → error ≢ UnsupportedRecordType → RefusesText (Some zone) kind tokens error
      → IsNoData zone kind tokens
  not_in_bytes : RefusesText (Some zone) kind tokens UnsupportedRecordType → IsNotOpaque zone kind tokens
      → IsNoData zone kind tokens

-- the data of a type that a text is
pub record IsDataText (zone : DomainName) (kind : RecordType) (text : List ℕ) (d : RData) : Type 0 where
  pub utf8 : IsUtf8 text
  pub tokens : List Lexeme
  pub are_tokens : AreTokensOf text tokens
  pub is_data : IsData zone kind tokens d

-- why a text is no data of a type
pub data IsNoDataText (zone : DomainName) (kind : RecordType) (text : List ℕ) : Type 0 where
  not_lexed : HasNoTokens text → IsNoDataText zone kind text
  not_data : (tokens : List Lexeme) → AreTokensOf text tokens → IsNoData zone kind tokens → IsNoDataText zone kind text

-- why a text has no tokens
abbrev pub IsUnlexed : List ℕ → Refusal → Type 0
IsUnlexed text refusal.Data = HasNoTokens text
IsUnlexed text refusal.Memory = Unit {0}
IsUnlexed text other = ⊥

-- why tokens have no opaque data
abbrev pub IsUnwritten : DomainName → RecordType → List Lexeme → Refusal → Type 0
IsUnwritten zone kind tokens refusal.Data = IsNotOpaque zone kind tokens
IsUnwritten zone kind tokens refusal.Memory = Unit {0}
IsUnwritten zone kind tokens other = ⊥

-- why tokens have no data
abbrev pub IsUnread : DomainName → RecordType → List Lexeme → Refusal → Type 0
IsUnread zone kind tokens refusal.Data = IsNoData zone kind tokens
IsUnread zone kind tokens refusal.Memory = Unit {0}
IsUnread zone kind tokens other = ⊥

-- why there is no data
abbrev pub IsRefused : DomainName → RecordType → List ℕ → Refusal → Type 0
IsRefused zone kind text refusal.Encoding = ¬ (IsUtf8 text)
IsRefused zone kind text refusal.Data = IsNoDataText zone kind text
IsRefused zone kind text refusal.Memory = Unit {0}
IsRefused zone kind text other = ⊥
