-- All tokens that are left, as the bytes of one field: hexadecimal digits and base64 in any number of words.
use Rattle.std.specs.Prelude.{ℕ, List, [], ◌∷◌, ◌++◌, Option, Some, None, option_map, Result, Ok, Err}
use Rattle.base64.specs.Engines.{standard}
use Rattle.base64.specs.GeneralPurpose.{decode_of}
use Rattle.base64.specs.declared.decode.DecodeError.{DecodeError}
use Rattle.hex.specs.Hex as hex
use Rattle.hex.specs.declared.error.FromHexError.{FromHexError}
use Rattle.dns_text.specs.Lexer.{Lexeme, CharData}
use Rattle.dns_formats.specs.Service.{parameters_bytes}
use Rattle.dns_formats.specs.Location.{token_bytes}
use Rattle.dns_formats.specs.Types.{types_bytes}
use Rattle.dns_formats.specs.declared.fault.TokenFault.{TokenFault}
use Rattle.dns_formats.specs.declared.fault.TokenFault.TheVariants.{NotAWord, NotHex, NotBase64}
use Rattle.dns_formats.specs.declared.field.Field.{Field}
use Rattle.dns_formats.specs.declared.field.Field.TheVariants as kind

-- the words of tokens, joined, unless one of the tokens is no word
abbrev pub joined : List Lexeme → Option (List ℕ)
joined [] = Some []
joined (CharData text ∷ tokens) = option_map (λ more. text ++ more) (joined tokens)
joined (token ∷ tokens) = None

-- bytes in hexadecimal digits, of which there is at least one
abbrev pub hex_outcome : Result (List ℕ) FromHexError → Result (List ℕ) TokenFault
hex_outcome (Ok []) = Err NotHex
hex_outcome (Ok (byte ∷ bytes)) = Ok (byte ∷ bytes)
hex_outcome (Err error) = Err NotHex

-- bytes in base64, of which there is at least one (RFC 4648 section 4)
abbrev pub base64_outcome : Result (List ℕ) DecodeError → Result (List ℕ) TokenFault
base64_outcome (Ok []) = Err NotBase64
base64_outcome (Ok (byte ∷ bytes)) = Ok (byte ∷ bytes)
base64_outcome (Err error) = Err NotBase64

-- the bytes of hexadecimal digits in any number of words
abbrev pub hex_words : Option (List ℕ) → Result (List ℕ) TokenFault
hex_words None = Err NotAWord
hex_words (Some words) = hex_outcome (hex.decode_of words)

-- the bytes of base64 in any number of words
abbrev pub base64_words : Option (List ℕ) → Result (List ℕ) TokenFault
base64_words None = Err NotAWord
base64_words (Some words) = base64_outcome (decode_of standard words)

-- the bytes of a field that takes all tokens that are left
abbrev pub rest_bytes : Field → List Lexeme → Result (List ℕ) TokenFault
rest_bytes kind.Hex tokens = hex_words (joined tokens)
rest_bytes kind.Base64 tokens = base64_words (joined tokens)
rest_bytes kind.Types tokens = types_bytes tokens
rest_bytes kind.Parameters tokens = parameters_bytes tokens
rest_bytes kind.Location tokens = token_bytes tokens
rest_bytes field tokens = Err NotAWord
