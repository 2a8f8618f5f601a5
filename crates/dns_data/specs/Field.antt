-- The fields of record data: a type has a fixed sequence of kinds, and data of the type has a value of each (RFC 1035
-- section 3.3).
use Rattle.std.specs.Prelude.{◌≡◌, ◌≢◌, ◌<◌, ◌^◌, nat_eq, Bool, true, false, ℕ, List, [], ◌∷◌, ◌++◌, length, map, flat_map}
use Rattle.std.specs.List.{AllByRecursion}
use Rattle.std.specs.declared.cmp.Ordering.{Ordering}
use Rattle.std.specs.Cmp.Lexicographic.{slice_cmp}
use Rattle.std.specs.Ordering.{nat_cmp, on, eq_of_both, then_cmp}
use Rattle.std.specs.Str.{bytes_eq}
use Rattle.std.specs.Int.{w16, w32, to_be_bytes}
use Rattle.std.specs.Str.{str_to_ascii_lowercase}
use Rattle.std.specs.Net.Addr.{ipv4_octets, ipv6_octets, ipv6_segments}
use Rattle.std.specs.declared.net.ipv4_addr.Ipv4Addr.{Ipv4Addr}
use Rattle.std.specs.declared.net.ipv6_addr.Ipv6Addr.{Ipv6Addr}
use Rattle.dns_names.specs.Name.{DomainName}
use Rattle.dns_wire.specs.Encodable.{Piece, Plain, name_piece, start_position, form}
use Rattle.dns_wire.specs.declared.name_encoding.NameEncoding.TheVariants.{Uncompressed}
use Rattle.dns_wire.specs.declared.name_encoding.RDataEncoding.TheVariants.{StandardRecord, Canonical}

-- the code and the data of an option (RFC 6891 section 6.1.2)
pub record OptionValue : Type 0 where
  pub code : ℕ
  pub bytes : List ℕ

-- Numbers of 16 and of 32 bits; a time of 32 bits in seconds, which text may state with units; addresses; a name that may
-- be compressed, and one that never is (RFC 2782, RFC 3597 section 4); and what extends to the end of the data: character
-- strings, options, or opaque bytes.
pub data Kind : Type 0 where
  Number16 : Kind
  Number32 : Kind
  Seconds : Kind
  Address4 : Kind
  Address6 : Kind
  CompressibleName : Kind
  WholeName : Kind
  Strings : Kind
  Options : Kind
  Opaque : Kind

-- what a value of a kind is
abbrev pub ValueOf : Kind → Type 0
ValueOf Number16 = ℕ
ValueOf Number32 = ℕ
ValueOf Seconds = ℕ
ValueOf Address4 = Ipv4Addr
ValueOf Address6 = Ipv6Addr
ValueOf CompressibleName = DomainName
ValueOf WholeName = DomainName
ValueOf Strings = List (List ℕ)
ValueOf Options = List OptionValue
ValueOf Opaque = List ℕ

-- one value of each kind
abbrev pub Values : List Kind → Type 0
Values [] = Unit {0}
Values (kind ∷ kinds) = ValueOf kind × Values kinds

-- ---- encodings

-- a character string: its length in one byte, and its bytes (RFC 1035 section 3.3)
abbrev pub string_pieces : List ℕ → List Piece
string_pieces string = Plain (length string ∷ []) ∷ Plain string ∷ []

-- an option: its code and the length of its data, two bytes each, and the data (RFC 6891 section 6.1.2)
abbrev pub option_form : OptionValue → List ℕ
option_form option = to_be_bytes w16 option.code ++ (to_be_bytes w16 (length option.bytes) ++ option.bytes)

-- an option as three pieces: code, length and data
abbrev pub option_pieces : OptionValue → List Piece
option_pieces option =
    Plain (to_be_bytes w16 option.code) ∷ Plain (to_be_bytes w16 (length option.bytes)) ∷ Plain option.bytes ∷ []

-- The encoding of a value. In canonical form, names are written whole and in lower case (RFC 4034 section 6.2).
abbrev pub value_pieces : Bool → (kind : Kind) → ValueOf kind → List Piece
value_pieces canonical Number16 number = Plain (to_be_bytes w16 number) ∷ []
value_pieces canonical Number32 number = Plain (to_be_bytes w32 number) ∷ []
value_pieces canonical Seconds seconds = Plain (to_be_bytes w32 seconds) ∷ []
value_pieces canonical Address4 address = Plain (ipv4_octets address) ∷ []
value_pieces canonical Address6 address = Plain (ipv6_octets address) ∷ []
value_pieces canonical CompressibleName name = name_piece StandardRecord canonical name.labels ∷ []
value_pieces canonical WholeName name = name_piece Canonical canonical name.labels ∷ []
value_pieces canonical Strings strings = flat_map string_pieces strings
value_pieces canonical Options options = flat_map option_pieces options
value_pieces canonical Opaque bytes = Plain bytes ∷ []

-- the values one after another
abbrev pub values_pieces : Bool → (kinds : List Kind) → Values kinds → List Piece
values_pieces canonical [] values = []
values_pieces canonical (kind ∷ kinds) values =
    value_pieces canonical kind values.0 ++ values_pieces canonical kinds values.1

-- the length of values one after another, whose names are not compressed
abbrev pub values_len : (kinds : List Kind) → Values kinds → ℕ
values_len kinds values = length (form (record start_position { encoding = Uncompressed }) (values_pieces false kinds values))

-- a name in lower case
abbrev pub lower_name : DomainName → DomainName
lower_name name = record name { labels = map str_to_ascii_lowercase name.labels }

-- values with their names in lower case, as their canonical form has them (RFC 4034 section 6.2)
abbrev pub lower_value : (kind : Kind) → ValueOf kind → ValueOf kind
lower_value CompressibleName name = lower_name name
lower_value WholeName name = lower_name name
lower_value kind value = value

-- values of some kinds with their names in lower case
abbrev pub lower_values : (kinds : List Kind) → Values kinds → Values kinds
lower_values [] values = values
lower_values (kind ∷ kinds) values = (lower_value kind values.0, lower_values kinds values.1)

-- ---- sound values

-- Numbers fit their bits, addresses their bytes, names are fully qualified, and a character string has at most 255 bytes
-- (RFC 1035 section 3.3). There is at least one character string, and at least one opaque byte.
abbrev pub IsSoundValue : (kind : Kind) → ValueOf kind → Type 0
IsSoundValue Number16 number = number < 2 ^ 16
IsSoundValue Number32 number = number < 2 ^ 32
IsSoundValue Seconds seconds = seconds < 2 ^ 32
IsSoundValue Address4 address = length (ipv4_octets address) ≡ 4
IsSoundValue Address6 address = length (ipv6_segments address) ≡ 8
IsSoundValue CompressibleName name = name.is_fqdn ≡ true
IsSoundValue WholeName name = name.is_fqdn ≡ true
IsSoundValue Strings strings = (strings ≢ []) × AllByRecursion (λ string. length string < 256) strings
IsSoundValue Options options = AllByRecursion (λ option. (option.code < 2 ^ 16) × (length option.bytes < 2 ^ 16)) options
IsSoundValue Opaque bytes = bytes ≢ []

-- each value is sound
abbrev pub AreSoundValues : (kinds : List Kind) → Values kinds → Type 0
AreSoundValues [] values = Unit {0}
AreSoundValues (kind ∷ kinds) values = IsSoundValue kind values.0 × AreSoundValues kinds values.1

-- ---- equality

-- options are equal if their codes and their data are
abbrev pub same_option : OptionValue → OptionValue → Bool
same_option = eq_of_both (on (λ option. option.code) nat_eq) (on (λ option. option.bytes) bytes_eq)

-- ---- order

-- options compare by their codes, and then by their data
abbrev pub option_cmp : OptionValue → OptionValue → Ordering
option_cmp = then_cmp (on (λ option. option.code) nat_cmp) (on (λ option. option.bytes) (slice_cmp nat_cmp))
