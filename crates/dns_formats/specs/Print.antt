-- Record data as text (RFC 1035 section 5.1, RFC 3597 section 5).
use Rattle.std.specs.Prelude.{ℕ, zero, suc, ◌%◌, ◌==◌, if◌then◌else◌, Bool, true, false, List, [], ◌∷◌, ◌++◌, length, take, drop, slice_index, Option, Some, None, codes}
use Rattle.std.specs.Fmt.{decimal}
use Rattle.std.specs.Int.{w16, w32, from_be_bytes}
use Rattle.base64.specs.Engines.{standard}
use Rattle.base64.specs.GeneralPurpose.{encode_of}
use Rattle.hex.specs.Hex.{encode_lower}
use Rattle.dns_fields.specs.bitmaps.TypeWord.{word_of_type}
use Rattle.dns_names.specs.Print.{text_of_labels}
use Rattle.dns_text.specs.CharacterString.{escaped_text}
use Rattle.dns_text.specs.Lexer.{Lexeme, CharData, QuotedString}
use Rattle.dns_text.specs.Tokens.{datum_text, data_text}
use Rattle.dns_fields.specs.bitmaps.Bitmap.{types_of}
use Rattle.dns_fields.specs.bitmaps.Base32.{encoded}
use Rattle.dns_fields.specs.service.Text.{parameter_texts}
use Rattle.dns_fields.specs.location.Text.{location_words, joined_words}
use Rattle.dns_formats.specs.Field.{may_be_empty}
use Rattle.dns_formats.specs.Wire.{counted_octets, value_size, fits}
use Rattle.dns_formats.specs.declared.field.Field.{Field}
use Rattle.dns_formats.specs.declared.field.Field.TheVariants as kind
use Rattle.dns_formats.specs.declared.field.Field.TheVariants.{Number8, Number16, Number32, Name, CharacterString, Tag, Text, Hex, Base64}

-- the labels of the uncompressed name at the front of bytes, after `past` more bytes of the label before
abbrev pub labels_at : ℕ → List ℕ → List (List ℕ)
labels_at past [] = []
labels_at zero (c ∷ cs) = if c == 0 then [] else take c cs ∷ labels_at c cs
labels_at (suc past) (c ∷ cs) = labels_at past cs

-- a salt in hexadecimal digits, or `-` if it is empty (RFC 5155 section 3.3)
abbrev pub salt_text : List ℕ → List ℕ
salt_text [] = codes "-"
salt_text (byte ∷ bytes) = encode_lower (byte ∷ bytes)

-- The token of the value of a field at the front of bytes. Numbers are decimal, strings are quoted, and hexadecimal digits
-- are in lower case.
abbrev pub front_token : Field → List ℕ → Lexeme
front_token Number8 bytes = CharData (decimal (slice_index bytes 0))
front_token Number16 bytes = CharData (decimal (from_be_bytes w16 bytes))
front_token Number32 bytes = CharData (decimal (from_be_bytes w32 bytes))
front_token Name bytes = CharData (text_of_labels true (labels_at 0 bytes))
front_token CharacterString bytes = QuotedString (escaped_text (counted_octets bytes))
front_token Tag bytes = CharData (counted_octets bytes)
front_token kind.RecordType bytes = CharData (word_of_type (from_be_bytes w16 bytes))
front_token kind.Time bytes = CharData (decimal (from_be_bytes w32 bytes))
front_token kind.Salt bytes = CharData (salt_text (counted_octets bytes))
front_token Text bytes = QuotedString (escaped_text bytes)
front_token Hex bytes = CharData (encode_lower bytes)
front_token Base64 bytes = CharData (encode_of standard bytes)
front_token kind.Algorithm bytes = CharData (decimal (slice_index bytes 0))
front_token kind.CertificateType bytes = CharData (decimal (from_be_bytes w16 bytes))
front_token kind.Hash bytes = CharData (encoded (counted_octets bytes))
-- A location has several tokens, whose texts these are with a blank between each two.
front_token kind.Location bytes = CharData (joined_words (location_words bytes))
-- A list has no such token.
front_token kind.Types bytes = CharData []
front_token kind.Parameters bytes = CharData []

-- types by their names
abbrev pub type_tokens : List ℕ → List Lexeme
type_tokens [] = []
type_tokens (number ∷ numbers) = CharData (word_of_type (number % 65536)) ∷ type_tokens numbers

-- words as tokens
abbrev pub word_tokens : List (List ℕ) → List Lexeme
word_tokens [] = []
word_tokens (word ∷ words) = CharData word ∷ word_tokens words

-- the tokens of the value of a field that may be empty
abbrev pub list_tokens : Field → List ℕ → List Lexeme
list_tokens kind.Types bytes = type_tokens (types_of 0 0 bytes)
list_tokens kind.Parameters bytes = word_tokens (parameter_texts 0 bytes)
list_tokens field bytes = []

-- the tokens of the value of a field that is not empty
abbrev pub some_tokens : Field → List ℕ → List Lexeme
some_tokens kind.Location bytes = word_tokens (location_words bytes)
some_tokens field bytes = front_token field bytes ∷ []

-- the tokens of the value of a field at the front of bytes
abbrev pub front_tokens : Field → List ℕ → List Lexeme
front_tokens field bytes = if may_be_empty field then list_tokens field bytes else some_tokens field bytes

-- the tokens of fields whose values follow one another in bytes
abbrev pub data_tokens : List Field → List ℕ → List Lexeme
data_tokens [] bytes = []
data_tokens (field ∷ fields) bytes = front_tokens field bytes ++ data_tokens fields (drop (value_size field bytes) bytes)

-- what precedes a token: nothing before the first, and a blank before any other
abbrev pub lead : Bool → List ℕ
lead true = []
lead false = 32 ∷ []

-- the texts of tokens, with a blank before each but the first
abbrev pub spaced : Bool → List Lexeme → List ℕ
spaced is_first [] = []
spaced is_first (token ∷ tokens) = (lead is_first ++ datum_text token) ++ spaced false tokens

-- data of any type: `\#`, its length, and its bytes in hexadecimal digits (RFC 3597 section 5)
abbrev pub generic_text : List ℕ → List ℕ
generic_text [] = codes "\\# 0"
generic_text (byte ∷ bytes) = codes "\\# " ++ decimal (length (byte ∷ bytes)) ++ 32 ∷ encode_lower (byte ∷ bytes)

-- the text of data with these fields, or the generic form if there are none, or the bytes are not their values
abbrev pub format_text : Option (List Field) → List ℕ → List ℕ
format_text None bytes = generic_text bytes
format_text (Some fields) bytes = if fits fields bytes then data_text (data_tokens fields bytes) else generic_text bytes
