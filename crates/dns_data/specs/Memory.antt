-- What takes no memory: values of fields that are stored inline, and faults that are found before memory is taken.
use Rattle.std.specs.Prelude.{◌≡◌, ◌≢◌, ◌+◌, ◌≤◌, ◌&&◌, Bool, true, false, ℕ, List, [], ◌∷◌, length, Option, Some}
use Rattle.dns_wire.specs.Name.{name_len}
use Rattle.dns_wire.specs.declared.error.DecodeError.{DecodeError}
use Rattle.dns_wire.specs.declared.error.DecodeError.TheVariants as decoding
use Rattle.dns_names.specs.Name.{DomainName}
use Rattle.dns_text.specs.Lexer.{Lexeme}
use Rattle.dns_data.specs.Field.{Kind, CompressibleName, WholeName, Strings, Options, Opaque, ValueOf, Values}
use Rattle.dns_data.specs.Text.{Takes, RefusesToken}
use Rattle.dns_data.specs.Wire.{ValueAt, RefusesValue}
use Rattle.dns_data.specs.declared.error.RDataParseError.{RDataParseError}
use Rattle.dns_data.specs.declared.error.RDataParseError.TheVariants as parsing

-- ---- values

-- a name of at most 24 labels, of at most 32 bytes in all
abbrev pub IsInlineName : DomainName → Type 0
IsInlineName name = (length name.labels ≤ 24) × (name_len name.labels ≤ length name.labels + 33)

-- Numbers and addresses are stored inline, and so are short names. A list or opaque bytes take memory unless there are none.
abbrev pub IsInlineValue : (kind : Kind) → ValueOf kind → Type 0
IsInlineValue CompressibleName name = IsInlineName name
IsInlineValue WholeName name = IsInlineName name
IsInlineValue Strings strings = strings ≡ []
IsInlineValue Options options = options ≡ []
IsInlineValue Opaque bytes = bytes ≡ []
IsInlineValue kind value = Unit {0}

-- every value is stored inline
abbrev pub AreInlineValues : (kinds : List Kind) → Values kinds → Type 0
AreInlineValues [] values = Unit {0}
AreInlineValues (kind ∷ kinds) values = IsInlineValue kind values.0 × AreInlineValues kinds values.1

-- ---- kinds

-- whether all values of a kind are stored inline: numbers, times and addresses
abbrev pub is_fixed : Kind → Bool
is_fixed CompressibleName = false
is_fixed WholeName = false
is_fixed Strings = false
is_fixed Options = false
is_fixed Opaque = false
is_fixed kind = true

-- whether all kinds are of this sort
abbrev pub are_fixed : List Kind → Bool
are_fixed [] = true
are_fixed (kind ∷ kinds) = is_fixed kind && are_fixed kinds

-- ---- faults

-- The first fault that decoding some kinds meets, before it takes memory: a number or an address is cut short, and none but
-- numbers and addresses precede it.
pub data RefusesFieldsEarly (bytes : List ℕ) (data_end : ℕ) : List Kind → ℕ → DecodeError → Type 0 where
  early_value : {kind : Kind} {kinds : List Kind} {place : ℕ} {error : DecodeError} → is_fixed kind ≡ true
      → RefusesValue bytes data_end kind place error → RefusesFieldsEarly bytes data_end (kind ∷ kinds) place error
  past_early_value : {kind : Kind} {kinds : List Kind} {place middle : ℕ} {error : DecodeError} (value : ValueOf kind)
      → is_fixed kind ≡ true → ValueAt bytes data_end kind place value middle
      → RefusesFieldsEarly bytes data_end kinds middle error → RefusesFieldsEarly bytes data_end (kind ∷ kinds) place error

-- The first fault that parsing some kinds meets, before it takes memory: a token is missing, or is no number or address, and
-- none but numbers and addresses precede it.
pub data RefusesTokensEarly (origin : Option DomainName) : List Kind → List Lexeme → RDataParseError → Type 0 where
  missing_token : {kind : Kind} {kinds : List Kind} → RefusesTokensEarly origin (kind ∷ kinds) [] parsing.MissingToken
  early_token : {kind : Kind} {kinds : List Kind} {tokens : List Lexeme} {error : RDataParseError} → is_fixed kind ≡ true
      → RefusesToken origin kind tokens error → RefusesTokensEarly origin (kind ∷ kinds) tokens error
  past_early_token : {kind : Kind} {kinds : List Kind} {tokens rest : List Lexeme} {error : RDataParseError} (value : ValueOf kind)
      → is_fixed kind ≡ true → Takes origin kind tokens value rest → RefusesTokensEarly origin kinds rest error
      → RefusesTokensEarly origin (kind ∷ kinds) tokens error

-- ---- outcomes

-- What is decided before memory is taken when fields are decoded: an early fault is the error, and decoding numbers and
-- addresses alone takes no memory.
pub record IsReadEarly (bytes : List ℕ) (data_end : ℕ) (kinds : List Kind) (place : ℕ) (outcome : Option DecodeError) : Type 0 where
  pub fixed : are_fixed kinds ≡ true → outcome ≢ Some decoding.Memory
  pub fault : (error : DecodeError) → RefusesFieldsEarly bytes data_end kinds place error → outcome ≡ Some error

-- The same when fields are parsed.
pub record IsParsedEarly (origin : Option DomainName) (kinds : List Kind) (tokens : List Lexeme) (outcome : Option RDataParseError) : Type 0 where
  pub fixed : are_fixed kinds ≡ true → outcome ≢ Some parsing.Memory
  pub fault : (error : RDataParseError) → RefusesTokensEarly origin kinds tokens error → outcome ≡ Some error
