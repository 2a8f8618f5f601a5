-- The text of the fields of record data in zone files (RFC 1035 section 5.1).
use Rattle.std.specs.Prelude.{◌≡◌, ◌≢◌, nat_lt, if◌then◌else◌, Bool, true, false, ℕ, List, [], ◌∷◌, ◌++◌, length, Option, Some, None, Result, Ok, Err, ◌/◌, ◌%◌, flat_map, codes}
use Rattle.std.specs.Char.{digit_char}
use Rattle.std.specs.Fmt.{decimal}
use Rattle.std.specs.List.{AllByRecursion}
use Rattle.std.specs.Net.Addr.{ipv4_octets, ipv6_segments, IsIpv4Addr, IsIpv6Addr}
use Rattle.std.specs.Net.Text.{ipv4_text, hex_groups_text}
use Rattle.std.specs.Net.Grammar.{IsIpv4Text, IsIpv6Text}
use Rattle.dns_wire.specs.codes.Decimal.{decimal_up_to}
use Rattle.dns_wire.specs.Name.{AreLabels}
use Rattle.dns_names.specs.Name.{DomainName}
use Rattle.dns_names.specs.Build.{parse_name, append_domain}
use Rattle.dns_names.specs.Print.{text_of_name, AreOctets}
use Rattle.dns_names.specs.declared.error.ParseError.{ParseError}
use Rattle.dns_text.specs.Lexer.{Lexeme, CharData, QuotedString, At}
use Rattle.dns_text.specs.Ttl.{time}
use Rattle.dns_text.specs.CharacterString.{unescaped, quoted_text}
use Rattle.dns_data.specs.Error.{name_error}
use Rattle.dns_data.specs.Field.{Kind, Number16, Number32, Seconds, Address4, Address6, CompressibleName, WholeName, Strings, Options, Opaque, ValueOf, Values}
use Rattle.dns_data.specs.declared.error.RDataParseError.{RDataParseError}
use Rattle.dns_data.specs.declared.error.RDataParseError.TheVariants.{MissingToken, InvalidToken, UnexpectedToken, CharacterDataTooLong}

-- ---- parsing

-- a name in text, as a name or an error of record data
abbrev pub as_name : Result DomainName ParseError → Result DomainName RDataParseError
as_name (Ok name) = Ok name
as_name (Err error) = Err (name_error error)

-- A word is a name, which the origin completes if it is relative. `@` is the origin.
abbrev pub name_of_token : Option DomainName → Lexeme → Result DomainName RDataParseError
name_of_token origin (CharData text) = as_name (parse_name text origin)
name_of_token (Some origin) At = as_name (append_domain (record { is_fqdn = false; labels = [] }) origin)
name_of_token origin token = Err InvalidToken

-- a character string of at most 255 bytes, without its escapes
abbrev pub string_of_text : List ℕ → Result (List ℕ) RDataParseError
string_of_text text = elim (unescaped text) [
  | None ↦ Err InvalidToken
  | Some string ↦ if nat_lt 255 (length string) then Err CharacterDataTooLong else Ok string
]

-- A word or a quoted string is a character string. In a character string `@` has no special meaning.
abbrev pub string_of_token : Lexeme → Result (List ℕ) RDataParseError
string_of_token (CharData text) = string_of_text text
string_of_token (QuotedString text) = string_of_text text
string_of_token At = Ok (64 ∷ [])
string_of_token token = Err InvalidToken

-- the token is a value of the kind
abbrev pub IsTokenOf : Option DomainName → (kind : Kind) → ValueOf kind → Lexeme → Type 0
IsTokenOf origin Number16 number (CharData text) = decimal_up_to 65535 text ≡ Some number
IsTokenOf origin Number32 number (CharData text) = decimal_up_to 4294967295 text ≡ Some number
IsTokenOf origin Seconds seconds (CharData text) = time text ≡ Some seconds
IsTokenOf origin Address4 address (CharData text) = IsIpv4Text text address
IsTokenOf origin Address6 address (CharData text) = IsIpv6Text text address
IsTokenOf origin CompressibleName name token = name_of_token origin token ≡ Ok name
IsTokenOf origin WholeName name token = name_of_token origin token ≡ Ok name
IsTokenOf origin kind value token = ⊥

-- the strings of tokens
pub data AreTokensOf : List (List ℕ) → List Lexeme → Type 0 where
  no_string : AreTokensOf [] []
  one_string : {string : List ℕ} {strings : List (List ℕ)} {token : Lexeme} {tokens : List Lexeme}
      → string_of_token token ≡ Ok string → AreTokensOf strings tokens → AreTokensOf (string ∷ strings) (token ∷ tokens)

-- Takes origin kind tokens value rest: the value is parsed from the first of the tokens, and the rest follows it.
-- Character strings are parsed from all tokens.
abbrev pub Takes : Option DomainName → (kind : Kind) → List Lexeme → ValueOf kind → List Lexeme → Type 0
Takes origin Strings tokens strings rest = (tokens ≢ []) × AreTokensOf strings tokens × (rest ≡ [])
Takes origin kind [] value rest = ⊥
Takes origin kind (token ∷ tokens) value rest = IsTokenOf origin kind value token × (rest ≡ tokens)

-- a value of each kind is parsed, and no token is left
abbrev pub AreParsed : Option DomainName → (kinds : List Kind) → List Lexeme → Values kinds → Type 0
AreParsed origin [] tokens values = tokens ≡ []
AreParsed origin (kind ∷ kinds) tokens values =
    (rest : List Lexeme) × Takes origin kind tokens values.0 rest × AreParsed origin kinds rest values.1

-- the token is no value of the kind, with this error
abbrev pub IsNoTokenOf : Option DomainName → Kind → Lexeme → RDataParseError → Type 0
IsNoTokenOf origin CompressibleName token error = name_of_token origin token ≡ Err error
IsNoTokenOf origin WholeName token error = name_of_token origin token ≡ Err error
IsNoTokenOf origin kind token error = ((value : ValueOf kind) → ¬ IsTokenOf origin kind value token) × (error ≡ InvalidToken)

-- the first token that is no character string, with its error
pub data AreNoTokensOf : List Lexeme → RDataParseError → Type 0 where
  bad_string : {token : Lexeme} {tokens : List Lexeme} {error : RDataParseError} → string_of_token token ≡ Err error
      → AreNoTokensOf (token ∷ tokens) error
  past_string : {string : List ℕ} {token : Lexeme} {tokens : List Lexeme} {error : RDataParseError}
      → string_of_token token ≡ Ok string → AreNoTokensOf tokens error → AreNoTokensOf (token ∷ tokens) error

-- no value of the kind can be parsed from the front of the tokens, with this error
abbrev pub RefusesToken : Option DomainName → Kind → List Lexeme → RDataParseError → Type 0
RefusesToken origin kind [] error = error ≡ MissingToken
RefusesToken origin Strings tokens error = AreNoTokensOf tokens error
RefusesToken origin kind (token ∷ tokens) error = IsNoTokenOf origin kind token error

-- The first fault that parsing a value of each kind meets.
pub data RefusesTokens (origin : Option DomainName) : List Kind → List Lexeme → RDataParseError → Type 0 where
  refused_token : {kind : Kind} {kinds : List Kind} {tokens : List Lexeme} {error : RDataParseError}
      → RefusesToken origin kind tokens error → RefusesTokens origin (kind ∷ kinds) tokens error
  past_token : {kind : Kind} {kinds : List Kind} {tokens rest : List Lexeme} {error : RDataParseError} (value : ValueOf kind)
      → Takes origin kind tokens value rest → RefusesTokens origin kinds rest error → RefusesTokens origin (kind ∷ kinds) tokens error
  tokens_left : {tokens : List Lexeme} → tokens ≢ [] → RefusesTokens origin [] tokens UnexpectedToken

-- ---- printing

-- character strings in quotes, separated by blanks
abbrev pub strings_text : List (List ℕ) → List ℕ
strings_text [] = []
strings_text (string ∷ []) = quoted_text string
strings_text (string ∷ next ∷ strings) = quoted_text string ++ 32 ∷ strings_text (next ∷ strings)

-- The text of a value. Options and opaque bytes have none.
abbrev pub value_text : (kind : Kind) → ValueOf kind → List ℕ
value_text Number16 number = decimal number
value_text Number32 number = decimal number
value_text Seconds seconds = decimal seconds
value_text Address4 address = ipv4_text (ipv4_octets address)
value_text Address6 address = hex_groups_text (ipv6_segments address)
value_text CompressibleName name = text_of_name name
value_text WholeName name = text_of_name name
value_text Strings strings = strings_text strings
value_text kind value = []

-- the texts of values, separated by blanks
abbrev pub values_text : (kinds : List Kind) → Values kinds → List ℕ
values_text [] values = []
values_text (kind ∷ []) values = value_text kind values.0
values_text (kind ∷ next ∷ kinds) values = value_text kind values.0 ++ 32 ∷ values_text (next ∷ kinds) values.1

-- bytes in hexadecimal digits, two for each
abbrev pub hex_text : List ℕ → List ℕ
hex_text bytes = flat_map (λ byte. digit_char (byte / 16) ∷ digit_char (byte % 16) ∷ []) bytes

-- data of any type: `\#`, its length, and its bytes in hexadecimal digits (RFC 3597 section 5)
abbrev pub generic_text : List ℕ → List ℕ
generic_text [] = codes "\\# 0"
generic_text (byte ∷ bytes) = codes "\\# " ++ decimal (length (byte ∷ bytes)) ++ 32 ∷ hex_text (byte ∷ bytes)

-- options and opaque bytes have no text of their own
abbrev pub has_text : List Kind → Bool
has_text [] = true
has_text (Options ∷ kinds) = false
has_text (Opaque ∷ kinds) = false
has_text (kind ∷ kinds) = has_text kinds

-- ---- valid values

-- What the types of values ensure: the numbers of an address fit their bits, and the labels of a name and character strings
-- consist of octets.
abbrev pub IsValidValue : (kind : Kind) → ValueOf kind → Type 0
IsValidValue Address4 address = IsIpv4Addr address
IsValidValue Address6 address = IsIpv6Addr address
IsValidValue CompressibleName name = AreLabels name.labels × AllByRecursion AreOctets name.labels
IsValidValue WholeName name = AreLabels name.labels × AllByRecursion AreOctets name.labels
IsValidValue Strings strings = AllByRecursion AreOctets strings
IsValidValue kind value = Unit {0}

-- each value is valid
abbrev pub AreValidValues : (kinds : List Kind) → Values kinds → Type 0
AreValidValues [] values = Unit {0}
AreValidValues (kind ∷ kinds) values = IsValidValue kind values.0 × AreValidValues kinds values.1
