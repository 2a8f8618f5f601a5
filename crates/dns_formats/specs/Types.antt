-- Sets of record types as one field, and hashes in base32hex.
use Rattle.std.specs.Prelude.{ℕ, List, [], ◌∷◌, Option, Some, None, Result, Ok, Err}
use Rattle.dns_wire.specs.codes.RecordType.{type_number}
use Rattle.dns_wire.specs.declared.codes.record_type.RecordType.{RecordType}
use Rattle.dns_text.specs.Lexer.{Lexeme, CharData}
use Rattle.dns_fields.specs.bitmaps.Bitmap.{bitmap_of}
use Rattle.dns_fields.specs.bitmaps.Base32.{decoded}
use Rattle.dns_formats.specs.Counted.{counted}
use Rattle.dns_fields.specs.bitmaps.TypeWord.{type_of_word}
use Rattle.dns_formats.specs.declared.fault.TokenFault.{TokenFault}
use Rattle.dns_formats.specs.declared.fault.TokenFault.TheVariants.{NotAWord, NotAType, NotBase32}

-- ---- sets of types

-- the number of a type, if it is one
abbrev pub number_of_type : Option RecordType → Result ℕ TokenFault
number_of_type None = Err NotAType
number_of_type (Some record_type) = Ok (type_number record_type)

-- the number of the type that a token names
abbrev pub type_number_of : Lexeme → Result ℕ TokenFault
type_number_of (CharData text) = number_of_type (type_of_word text)
type_number_of token = Err NotAWord

-- a number before those after it, unless there is a fault
abbrev pub before_numbers : ℕ → Result (List ℕ) TokenFault → Result (List ℕ) TokenFault
before_numbers number (Ok numbers) = Ok (number ∷ numbers)
before_numbers number (Err fault) = Err fault

-- the number of a token before those of the tokens after it, or the first fault
abbrev pub then_numbers : Result ℕ TokenFault → Result (List ℕ) TokenFault → Result (List ℕ) TokenFault
then_numbers (Ok number) more = before_numbers number more
then_numbers (Err fault) more = Err fault

-- the numbers of the types that tokens name, or the first fault
abbrev pub type_numbers : List Lexeme → Result (List ℕ) TokenFault
type_numbers [] = Ok []
type_numbers (token ∷ tokens) = then_numbers (type_number_of token) (type_numbers tokens)

-- the bitmap of the numbers of types, unless there is a fault
abbrev pub bitmap_or_fault : Result (List ℕ) TokenFault → Result (List ℕ) TokenFault
bitmap_or_fault (Ok numbers) = Ok (bitmap_of numbers)
bitmap_or_fault (Err fault) = Err fault

-- the bitmap of the types that tokens name, in any order (RFC 4034 section 4.2)
abbrev pub types_bytes : List Lexeme → Result (List ℕ) TokenFault
types_bytes tokens = bitmap_or_fault (type_numbers tokens)

-- ---- hashes (RFC 5155 section 3.3)

-- a hash of 1 to 255 bytes, after its length
abbrev pub hash_outcome : Option (List ℕ) → Result (List ℕ) TokenFault
hash_outcome None = Err NotBase32
hash_outcome (Some []) = Err NotBase32
hash_outcome (Some (byte ∷ bytes)) = counted (Ok (byte ∷ bytes))

-- a hash in base32hex in one word
abbrev pub hash_bytes : Lexeme → Result (List ℕ) TokenFault
hash_bytes (CharData text) = hash_outcome (decoded text)
hash_bytes token = Err NotAWord
