-- The fields of a record in a zone file: owner, TTL, class and type (RFC 1035 section 5.1).
use Rattle.std.specs.Prelude.{ℕ, if◌then◌else◌, Bool, false, List, [], ◌∷◌, find, Option, Some, None, Result, Ok, Err, codes}
use Rattle.std.specs.Str.{str_eq_ignore_ascii_case}
use Rattle.dns_wire.specs.codes.CodeText.{class_name, or_else}
use Rattle.dns_wire.specs.codes.Decimal.{is_digit}
use Rattle.dns_wire.specs.declared.codes.record_type.RecordType.{RecordType}
use Rattle.dns_wire.specs.declared.codes.dns_class.DNSClass.{DNSClass}
use Rattle.dns_wire.specs.declared.codes.dns_class.DNSClass.TheVariants as classes
use Rattle.dns_names.specs.Name.{DomainName}
use Rattle.dns_names.specs.Build.{parse_name}
use Rattle.dns_names.specs.declared.error.ParseError.{ParseError}
use Rattle.dns_text.specs.Lexer.{Lexeme, CharData, At}
use Rattle.dns_text.specs.Ttl.{time}
use Rattle.dns_zone_file.specs.declared.error.EntryFault.{EntryFault}
use Rattle.dns_zone_file.specs.declared.error.EntryFault.TheVariants.{InvalidTtl, RepeatedField, MissingType, UnknownType}
use Rattle.dns_zone_file.specs.declared.types.Types.{Types}
use Rattle.dns_zone_file.specs.declared.types.Types.TheVariants.{Nine, All}
use Rattle.dns_zone_file.specs.Types.{type_in}

-- ---- names

-- the name, if the text is one
abbrev pub if_ok : Result DomainName ParseError → Option DomainName
if_ok (Ok name) = Some name
if_ok (Err error) = None

-- A word is a name, which the origin completes if it is relative. `@` is the origin.
abbrev pub name_of : DomainName → Lexeme → Option DomainName
name_of origin (CharData text) = if_ok (parse_name text (Some origin))
name_of origin At = Some origin
name_of origin other = None

-- ---- TTL, class and type

-- what a token between owner and data is: a TTL, a word that begins like one, a class, a type, or nothing of these
pub data Field : Type 0 where
  ttl_field : ℕ → Field
  bad_ttl : Field
  class_field : DNSClass → Field
  type_field : RecordType → Field
  no_field : Field

-- whether a word begins with a digit, as every TTL does
abbrev pub begins_with_digit : List ℕ → Bool
begins_with_digit [] = false
begins_with_digit (c ∷ cs) = is_digit c

-- the classes of zone files, in any case
abbrev pub zone_class : List ℕ → Option DNSClass
zone_class text =
    find (λ class. str_eq_ignore_ascii_case (class_name class) text) (classes.IN ∷ classes.CH ∷ classes.HS ∷ [])

-- the classes of zone files by their numbers, in any case (RFC 3597 section 5)
abbrev pub numbered_class : List ℕ → Option DNSClass
numbered_class text =
    if str_eq_ignore_ascii_case (codes "CLASS1") text then Some classes.IN
    else if str_eq_ignore_ascii_case (codes "CLASS3") text then Some classes.CH
    else if str_eq_ignore_ascii_case (codes "CLASS4") text then Some classes.HS
    else None

-- the class that a word denotes: its name or, where all types may be, its number
abbrev pub class_in : Types → List ℕ → Option DNSClass
class_in Nine text = zone_class text
class_in All text = or_else (zone_class text) (numbered_class text)

-- a time as the TTL, or an invalid TTL
abbrev pub ttl_or_bad : Option ℕ → Field
ttl_or_bad (Some seconds) = ttl_field seconds
ttl_or_bad None = bad_ttl

-- a type, or no field if the word is none
abbrev pub type_or_none : Option RecordType → Field
type_or_none (Some record_type) = type_field record_type
type_or_none None = no_field

-- A word is a TTL if it begins with a digit, a class if it denotes IN, CH or HS, and otherwise a type.
abbrev pub word_field : Types → List ℕ → Field
word_field types text =
    if begins_with_digit text then ttl_or_bad (time text)
    else elim (class_in types text) [ Some class ↦ class_field class | None ↦ type_or_none (type_in types text) ]

-- among the types that have fields here
abbrev pub field_of_word : List ℕ → Field
field_of_word text = word_field Nine text

-- What a token between owner and data is: a word that begins with a digit is a TTL, and any other a class or a type.
abbrev pub field_in : Types → Lexeme → Field
field_in types (CharData text) = word_field types text
field_in types other = no_field

-- among the types that have fields here
abbrev pub field_of : Lexeme → Field
field_of token = field_in Nine token

-- the TTL and the class, if they are stated, the type, and the tokens of the data
pub record Fields : Type 0 where
  pub ttl : Option ℕ
  pub dns_class : Option DNSClass
  pub record_type : RecordType
  pub rdata : List Lexeme

-- a TTL and a class, each at most once and in either order, a type, and the data
abbrev pub fields_from : Types → Option ℕ → Option DNSClass → List Lexeme → Result Fields EntryFault
fields_from types ttl class [] = Err MissingType
fields_from types ttl class (token ∷ tokens) = elim (field_in types token) [
  | ttl_field seconds ↦ elim ttl [ Some other ↦ Err RepeatedField | None ↦ fields_from types (Some seconds) class tokens ]
  | bad_ttl ↦ Err InvalidTtl
  | class_field found ↦ elim class [ Some other ↦ Err RepeatedField | None ↦ fields_from types ttl (Some found) tokens ]
  | type_field found ↦ Ok (record { ttl = ttl; dns_class = class; record_type = found; rdata = tokens })
  | no_field ↦ Err UnknownType
]

-- among the types that have fields here
abbrev pub fields_after : Option ℕ → Option DNSClass → List Lexeme → Result Fields EntryFault
fields_after ttl class tokens = fields_from Nine ttl class tokens

-- the fields between owner and data (RFC 1035 section 5.1), and the tokens of the data
abbrev pub fields_in : Types → List Lexeme → Result Fields EntryFault
fields_in types tokens = fields_from types None None tokens

-- among the types that have fields here
abbrev pub fields_of : List Lexeme → Result Fields EntryFault
fields_of tokens = fields_in Nine tokens
