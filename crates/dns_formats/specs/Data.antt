-- Record data from its tokens: the fields of its type, or the generic form (RFC 3597 section 5).
use Rattle.std.specs.Prelude.{ℕ, ◌==◌, nat_lt, if◌then◌else◌, Bool, false, List, [], ◌∷◌, length, drop, Option, Some, None, Result, Ok, Err, codes}
use Rattle.std.specs.Str.{bytes_eq}
use Rattle.hex.specs.Hex.{decode_of}
use Rattle.hex.specs.declared.error.FromHexError.{FromHexError}
use Rattle.dns_names.specs.Name.{DomainName}
use Rattle.dns_text.specs.Lexer.{Lexeme, CharData}
use Rattle.dns_formats.specs.Fault.{fault_at}
use Rattle.dns_formats.specs.Value.{number_of}
use Rattle.dns_formats.specs.Rest.{joined}
use Rattle.dns_formats.specs.Read.{located, fields_bytes}
use Rattle.dns_formats.specs.Wire.{fits}
use Rattle.dns_formats.specs.declared.fault.TokenFault.{TokenFault}
use Rattle.dns_formats.specs.declared.fault.TokenFault.TheVariants.{NotAWord, NotHex}
use Rattle.dns_formats.specs.declared.fault.FormatFault.{FormatFault}
use Rattle.dns_formats.specs.declared.fault.FormatFault.TheVariants.{NoFormat, MissingToken, WrongLength, NotOfType, TooLong}
use Rattle.dns_formats.specs.declared.field.Field.{Field}

-- ---- the generic form

-- `\#` begins the generic form of data
abbrev pub is_generic : List Lexeme → Bool
is_generic (CharData text ∷ tokens) = bytes_eq text (codes "\\#")
is_generic tokens = false

-- bytes in hexadecimal digits, perhaps none
abbrev pub digits_outcome : Result (List ℕ) FromHexError → Result (List ℕ) TokenFault
digits_outcome (Ok bytes) = Ok bytes
digits_outcome (Err error) = Err NotHex

-- the bytes of hexadecimal digits in any number of words, perhaps none
abbrev pub digits_bytes : Option (List ℕ) → Result (List ℕ) TokenFault
digits_bytes None = Err NotAWord
digits_bytes (Some words) = digits_outcome (decode_of words)

-- the bytes, if there are as many as is said
abbrev pub sized : ℕ → Result (List ℕ) FormatFault → Result (List ℕ) FormatFault
sized len (Ok bytes) = if length bytes == len then Ok bytes else Err WrongLength
sized len (Err fault) = Err fault

-- the bytes after a length
abbrev pub bytes_of_length : Result ℕ TokenFault → List Lexeme → Result (List ℕ) FormatFault
bytes_of_length (Ok len) tokens = sized len (located 2 (digits_bytes (joined tokens)))
bytes_of_length (Err fault) tokens = Err (fault_at 1 fault)

-- the bytes of the generic form, from the tokens after `\#`: their number, and hexadecimal digits
abbrev pub generic_bytes : List Lexeme → Result (List ℕ) FormatFault
generic_bytes [] = Err (MissingToken 1)
generic_bytes (token ∷ tokens) = bytes_of_length (number_of 65535 token) tokens

-- The bytes of a generic form must be data of the type, if it has a format.
abbrev pub of_type : Option (List Field) → Result (List ℕ) FormatFault → Result (List ℕ) FormatFault
of_type None outcome = outcome
of_type (Some fields) (Ok bytes) = if fits fields bytes then Ok bytes else Err NotOfType
of_type (Some fields) (Err fault) = Err fault

-- ---- any form

-- data of at most 65,535 bytes (RFC 1035 section 3.2.1)
abbrev pub short_data : Result (List ℕ) FormatFault → Result (List ℕ) FormatFault
short_data (Ok bytes) = if nat_lt 65535 (length bytes) then Err TooLong else Ok bytes
short_data (Err fault) = Err fault

-- the bytes of the fields of a type, if it has a format
abbrev pub format_bytes : Option DomainName → Option (List Field) → List Lexeme → Result (List ℕ) FormatFault
format_bytes origin None tokens = Err NoFormat
format_bytes origin (Some fields) tokens = short_data (fields_bytes origin fields 0 tokens)

-- The bytes that the tokens of record data denote, by the fields of the type, or the first fault.
abbrev pub data_bytes : Option DomainName → Option (List Field) → List Lexeme → Result (List ℕ) FormatFault
data_bytes origin fields tokens =
    if is_generic tokens then of_type fields (generic_bytes (drop 1 tokens)) else format_bytes origin fields tokens
