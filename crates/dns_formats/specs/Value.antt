-- A token as the bytes of one field (RFC 1035 section 5.1).
use Rattle.std.specs.Prelude.{◌≡◌, ◌≢◌, ◌%◌, ◌||◌, ◌&&◌, nat_le, nat_lt, if◌then◌else◌, Bool, true, false, ℕ, List, [], ◌∷◌, ◌++◌, length, Option, Some, None, Result, Ok, Err, MatchResult}
use Rattle.std.specs.Int.{w16, w32, to_be_bytes}
use Rattle.dns_wire.specs.codes.Decimal.{decimal_up_to}
use Rattle.dns_wire.specs.Writing.{whole_form}
use Rattle.dns_names.specs.Name.{DomainName}
use Rattle.dns_names.specs.Build.{parse_name, append_domain}
use Rattle.dns_names.specs.declared.error.ParseError.{ParseError}
use Rattle.dns_text.specs.CharacterString.{unescaped}
use Rattle.dns_text.specs.Lexer.{Lexeme, CharData, QuotedString, At}
use Rattle.dns_formats.specs.Fault.{name_fault}
pub use Rattle.dns_formats.specs.Counted.{counted}
use Rattle.dns_formats.specs.Mnemonic.{algorithms, certificate_types, word_number}
use Rattle.dns_formats.specs.Types.{hash_bytes}
use Rattle.dns_formats.specs.Dnssec.{type_bytes, time_bytes, salt_bytes}
use Rattle.dns_formats.specs.declared.fault.TokenFault.{TokenFault}
use Rattle.dns_formats.specs.declared.fault.TokenFault.TheVariants.{NotAWord, NotANumber, InvalidEscape, NotATag, RelativeName}
use Rattle.dns_formats.specs.declared.field.Field.{Field}
use Rattle.dns_formats.specs.declared.field.Field.TheVariants as kind

-- ---- appending

-- the bytes with those of an outcome after them
abbrev pub append_to : {E : Type 0} → List ℕ → Result (List ℕ) E → Result (List ℕ) E
append_to bytes (Ok more) = Ok (bytes ++ more)
append_to bytes (Err fault) = Err fault

-- The call appends the bytes that are specified, or returns the fault that is, unless it runs out of memory.
abbrev pub Appends : {X E : Type 0} → E → Result (List ℕ) E → List ℕ → Result X E → List ℕ → Type 0
Appends memory spec old result new =
    MatchResult result (λ _. append_to old spec ≡ Ok new) (λ fault. fault ≢ memory → spec ≡ Err fault)

-- ---- numbers

-- the number, or the fault that there is none
abbrev pub number_or_fault : Option ℕ → Result ℕ TokenFault
number_or_fault None = Err NotANumber
number_or_fault (Some number) = Ok number

-- a word is a decimal number up to the greatest
abbrev pub number_of : ℕ → Lexeme → Result ℕ TokenFault
number_of greatest (CharData text) = number_or_fault (decimal_up_to greatest text)
number_of greatest token = Err NotAWord

-- the bytes of a number, if there is one
abbrev pub bytes_of_number : (ℕ → List ℕ) → Result ℕ TokenFault → Result (List ℕ) TokenFault
bytes_of_number bytes (Ok number) = Ok (bytes number)
bytes_of_number bytes (Err fault) = Err fault

-- ---- names

-- the bytes of a name, which must be fully qualified
abbrev pub bytes_of_name : Result DomainName ParseError → Result (List ℕ) TokenFault
bytes_of_name (Ok name) = if name.is_fqdn then Ok (whole_form name.labels) else Err RelativeName
bytes_of_name (Err error) = Err (name_fault error)

-- A word is a name, which the origin completes if it is relative. `@` is the origin.
abbrev pub name_bytes : Option DomainName → Lexeme → Result (List ℕ) TokenFault
name_bytes origin (CharData text) = bytes_of_name (parse_name text origin)
name_bytes (Some origin) At = bytes_of_name (append_domain (record { is_fqdn = false; labels = [] }) origin)
name_bytes None At = Err RelativeName
name_bytes origin token = Err NotAWord

-- ---- strings

-- the octets of a string, or the fault of its escapes
abbrev pub octets_or_fault : Option (List ℕ) → Result (List ℕ) TokenFault
octets_or_fault None = Err InvalidEscape
octets_or_fault (Some octets) = Ok octets

-- A word or a quoted string, without its escapes. `@` has no special meaning here.
abbrev pub text_bytes : Lexeme → Result (List ℕ) TokenFault
text_bytes (CharData text) = octets_or_fault (unescaped text)
text_bytes (QuotedString text) = octets_or_fault (unescaped text)
text_bytes At = Ok (64 ∷ [])
text_bytes token = Err NotAWord

-- ---- tags

-- a letter or a digit
abbrev pub is_tag_octet : ℕ → Bool
is_tag_octet c = nat_le 48 c && nat_le c 57 || (nat_le 65 c && nat_le c 90 || nat_le 97 c && nat_le c 122)

-- letters and digits alone
abbrev pub are_tag_octets : List ℕ → Bool
are_tag_octets [] = true
are_tag_octets (c ∷ cs) = is_tag_octet c && are_tag_octets cs

-- a tag: 1 to 255 letters and digits (RFC 8659 section 4.1)
abbrev pub is_tag : List ℕ → Bool
is_tag tag = nat_lt 0 (length tag) && (nat_lt (length tag) 256 && are_tag_octets tag)

-- a tag, after its length
abbrev pub tag_bytes : Lexeme → Result (List ℕ) TokenFault
tag_bytes (CharData text) = if is_tag text then Ok (length text ∷ text) else Err NotATag
tag_bytes token = Err NotAWord

-- ---- values

-- the bytes of the value of a field that a token denotes
abbrev pub value_bytes : Option DomainName → Field → Lexeme → Result (List ℕ) TokenFault
value_bytes origin kind.Number8 token = bytes_of_number (λ number. number ∷ []) (number_of 255 token)
value_bytes origin kind.Number16 token = bytes_of_number (to_be_bytes w16) (number_of 65535 token)
value_bytes origin kind.Number32 token = bytes_of_number (to_be_bytes w32) (number_of 4294967295 token)
value_bytes origin kind.Name token = name_bytes origin token
value_bytes origin kind.CharacterString token = counted (text_bytes token)
value_bytes origin kind.Tag token = tag_bytes token
value_bytes origin kind.Text token = text_bytes token
value_bytes origin kind.RecordType token = type_bytes token
value_bytes origin kind.Time token = time_bytes token
value_bytes origin kind.Salt token = salt_bytes token
value_bytes origin kind.Algorithm token = bytes_of_number (λ number. (number % 256) ∷ []) (word_number algorithms 255 token)
value_bytes origin kind.CertificateType token =
    bytes_of_number (λ number. to_be_bytes w16 (number % 65536)) (word_number certificate_types 65535 token)
value_bytes origin kind.Hash token = hash_bytes token
value_bytes origin field token = Err NotAWord
