-- Record data by type: one line in each table below.
pub mod A
pub mod AAAA
pub mod CNAME
pub mod MX
pub mod NS
pub mod OPT
pub mod Order
pub mod PTR
pub mod SOA
pub mod SRV
pub mod TXT
use Rattle.std.specs.Prelude.{Bool, ◌≡◌, ◌≢◌, ◌+◌, ◌/◌, ◌%◌, ◌<◌, ◌^◌, ℕ, List, [], ◌∷◌, ◌++◌, length, flat_map, codes, true, false, Option, Some, None}
use Rattle.std.specs.Char.{digit_char}
use Rattle.std.specs.Fmt.{decimal}
use Rattle.std.specs.declared.net.ip_addr.IpAddr.{IpAddr}
use Rattle.std.specs.declared.net.ip_addr.IpAddr.TheVariants.{V4, V6}
use Rattle.dns_wire.specs.codes.RecordType.{type_number, type_of}
use Rattle.dns_wire.specs.declared.codes.record_type.RecordType.{RecordType}
use Rattle.dns_wire.specs.declared.codes.record_type.RecordType.TheVariants as types
use Rattle.dns_wire.specs.Encodable.{Piece, PiecesAt}
use Rattle.dns_wire.specs.declared.name_encoding.NameEncoding.TheVariants.{Uncompressed}
use Rattle.dns_wire.specs.declared.error.DecodeError.{DecodeError}
use Rattle.dns_names.specs.Name.{DomainName}
use Rattle.dns_text.specs.Lexer.{Lexeme}
use Rattle.dns_data.specs.Field.{Kind, Opaque, Values, OptionValue, option_form, values_pieces, values_len, AreSoundValues}
use Rattle.dns_data.specs.Text.{AreParsed, RefusesTokens, values_text, has_text, generic_text}
use Rattle.dns_data.specs.declared.error.RDataParseError.{RDataParseError}
use Rattle.dns_data.specs.declared.error.RDataParseError.TheVariants.{UnsupportedRecordType}
use Rattle.dns_data.specs.Wire.{RefusesValues}
use Rattle.dns_data.specs.Memory.{AreInlineValues, RefusesFieldsEarly, RefusesTokensEarly}
use Rattle.dns_data.specs.contracts.rdata.RDataPartialEq.TheImpl.{eq-value}
use Rattle.dns_data.specs.declared.rdata.RData.{RData}
use Rattle.dns_data.specs.declared.rdata.RData.TheVariants as of
use Rattle.dns_data.specs.declared.rdata.soa.SOA.{SOA as Authority}
use Rattle.dns_data.specs.rdata.A.{a_kinds, a_values}
use Rattle.dns_data.specs.rdata.AAAA.{aaaa_kinds, aaaa_values}
use Rattle.dns_data.specs.rdata.CNAME.{cname_kinds, cname_values}
use Rattle.dns_data.specs.rdata.MX.{mx_kinds, mx_values}
use Rattle.dns_data.specs.rdata.NS.{ns_kinds, ns_values}
use Rattle.dns_data.specs.rdata.OPT.{opt_kinds, opt_values}
use Rattle.dns_data.specs.rdata.PTR.{ptr_kinds, ptr_values}
use Rattle.dns_data.specs.rdata.SOA.{soa_kinds, soa_values}
use Rattle.dns_data.specs.rdata.SRV.{srv_kinds, srv_values}
use Rattle.dns_data.specs.rdata.TXT.{txt_kinds, txt_values}

-- ---- tables

-- the type of data
abbrev pub data_type : RData → RecordType
data_type (of.A a) = types.A
data_type (of.AAAA a) = types.AAAA
data_type (of.CNAME c) = types.CNAME
data_type (of.NS n) = types.NS
data_type (of.PTR p) = types.PTR
data_type (of.MX m) = types.MX
data_type (of.SOA s) = types.SOA
data_type (of.SRV s) = types.SRV
data_type (of.TXT t) = types.TXT
data_type (of.OPT o) = types.OPT
data_type (of.Update0 t) = t
data_type (of.Unknown code bytes) = code

-- the kinds of the fields of data
abbrev pub data_kinds : RData → List Kind
data_kinds (of.A a) = a_kinds
data_kinds (of.AAAA a) = aaaa_kinds
data_kinds (of.CNAME c) = cname_kinds
data_kinds (of.NS n) = ns_kinds
data_kinds (of.PTR p) = ptr_kinds
data_kinds (of.MX m) = mx_kinds
data_kinds (of.SOA s) = soa_kinds
data_kinds (of.SRV s) = srv_kinds
data_kinds (of.TXT t) = txt_kinds
data_kinds (of.OPT o) = opt_kinds
data_kinds (of.Update0 t) = []
data_kinds (of.Unknown code bytes) = Opaque ∷ []

-- and their values
abbrev pub data_values : (d : RData) → Values (data_kinds d)
data_values (of.A a) = a_values a
data_values (of.AAAA a) = aaaa_values a
data_values (of.CNAME c) = cname_values c
data_values (of.NS n) = ns_values n
data_values (of.PTR p) = ptr_values p
data_values (of.MX m) = mx_values m
data_values (of.SOA s) = soa_values s
data_values (of.SRV s) = srv_values s
data_values (of.TXT t) = txt_values t
data_values (of.OPT o) = opt_values o
data_values (of.Update0 t) = tt
data_values (of.Unknown code bytes) = (bytes, tt)

-- the kinds of the fields of a type, which are opaque bytes if it is not among these
abbrev pub kinds_of_type : RecordType → List Kind
kinds_of_type types.A = a_kinds
kinds_of_type types.AAAA = aaaa_kinds
kinds_of_type types.CNAME = cname_kinds
kinds_of_type types.NS = ns_kinds
kinds_of_type types.PTR = ptr_kinds
kinds_of_type types.MX = mx_kinds
kinds_of_type types.SOA = soa_kinds
kinds_of_type types.SRV = srv_kinds
kinds_of_type types.TXT = txt_kinds
kinds_of_type types.OPT = opt_kinds
kinds_of_type other = Opaque ∷ []

-- the data of a record whose data is empty: that of an OPT record without options, or of a record of an update (RFC 2136
-- section 2.4)
abbrev pub empty_data : RecordType → RData
empty_data types.OPT = of.OPT []
empty_data t = of.Update0 t

-- the address of data that is one
abbrev pub data_addr : RData → Option IpAddr
data_addr (of.A a) = Some (V4 a.0)
data_addr (of.AAAA a) = Some (V6 a.0)
data_addr d = None

-- the options of data that is an OPT record's
abbrev pub data_options : RData → Option (List OptionValue)
data_options (of.OPT options) = Some options
data_options d = None

-- the data of an SOA record
abbrev pub data_soa : RData → Option Authority
data_soa (of.SOA s) = Some s
data_soa d = None

-- whether data has no fields, as in an update (RFC 2136 section 2.4)
abbrev pub is_update_data : RData → Bool
is_update_data (of.Update0 t) = true
is_update_data d = false

-- ---- equality

-- Data are equal if they have the same variant and equal fields (RFC 2136 section 1.1.1): names are equal up to ASCII case,
-- and all else only if it is identical. The law `equality_is_by_fields` lists the fields.
abbrev pub same_data : RData → RData → Bool
same_data = eq-value.it

-- ---- encodings

-- the encoding of data, in canonical form or not
abbrev pub data_pieces : Bool → RData → List Piece
data_pieces canonical d = values_pieces canonical (data_kinds d) (data_values d)

-- the length of data whose names are not compressed
abbrev pub whole_len : RData → ℕ
whole_len d = values_len (data_kinds d) (data_values d)

-- ---- sound data

-- Data has the fields of its type, except in an update, where it may have none (RFC 2136 section 2.4). An OPT record has
-- options, perhaps none of them, also if it has no data.
abbrev pub HasFieldsOfType : RData → Type 0
HasFieldsOfType (of.Update0 t) = t ≢ types.OPT
HasFieldsOfType d = data_kinds d ≡ kinds_of_type (data_type d)

-- What can be written and read again: sound values, a type by the name of its number, and at most 65,535 bytes (RFC 1035
-- section 3.2.1) without compression.
pub record IsSoundData (d : RData) : Type 0 where
  pub values : AreSoundValues (data_kinds d) (data_values d)
  pub fields : HasFieldsOfType d
  pub type_fits : type_number (data_type d) < 2 ^ 16
  pub type_named : type_of (type_number (data_type d)) ≡ data_type d
  pub fits : whole_len d < 2 ^ 16

-- ---- decoding

-- Sound data of a type, in exactly its length.
pub record ReadsData (bytes : List ℕ) (place : ℕ) (record_type : RecordType) (len : ℕ) (d : RData) : Type 0 where
  pub of_type : data_type d ≡ type_of (type_number record_type)
  pub sound : IsSoundData d
  pub there : PiecesAt Uncompressed bytes place (data_pieces false d) (place + len)

-- The first fault of data of a type. Empty data has none.
abbrev pub RefusesData : List ℕ → ℕ → RecordType → ℕ → DecodeError → Type 0
RefusesData bytes place record_type len error =
    (0 < len) × RefusesValues bytes (place + len) (kinds_of_type (type_of (type_number record_type))) place error

-- ---- memory

-- data whose values are all stored inline
abbrev pub IsInlineData : RData → Type 0
IsInlineData d = AreInlineValues (data_kinds d) (data_values d)

-- the kinds of the fields of a type by its number
abbrev pub kinds_of_number : RecordType → List Kind
kinds_of_number record_type = kinds_of_type (type_of (type_number record_type))

-- The first fault of data of a type, which is found before memory is taken.
abbrev pub RefusesDataEarly : List ℕ → ℕ → RecordType → ℕ → DecodeError → Type 0
RefusesDataEarly bytes place record_type len error =
    (0 < len) × RefusesFieldsEarly bytes (place + len) (kinds_of_number record_type) place error

-- The first fault of the tokens of data of a type, which is found before memory is taken.
pub data RefusesTextEarly (origin : Option DomainName) (record_type : RecordType) (tokens : List Lexeme) : RDataParseError → Type 0 where
  no_text_form : has_text (kinds_of_number record_type) ≡ false
      → RefusesTextEarly origin record_type tokens UnsupportedRecordType
  bad_early_tokens : {error : RDataParseError} → has_text (kinds_of_number record_type) ≡ true
      → RefusesTokensEarly origin (kinds_of_number record_type) tokens error
      → RefusesTextEarly origin record_type tokens error

-- ---- text

-- Data of a type that has a text form, with a value of each of its fields, and no token left.
pub record IsParsedData (origin : Option DomainName) (record_type : RecordType) (tokens : List Lexeme) (d : RData) : Type 0 where
  pub has_text : has_text (kinds_of_type (type_of (type_number record_type))) ≡ true
  pub of_type : data_type d ≡ type_of (type_number record_type)
  pub fields : data_kinds d ≡ kinds_of_type (data_type d)
  pub values : AreParsed origin (data_kinds d) tokens (data_values d)

-- The first fault of the tokens of data of a type.
pub data RefusesText (origin : Option DomainName) (record_type : RecordType) (tokens : List Lexeme) : RDataParseError → Type 0 where
  no_text : has_text (kinds_of_type (type_of (type_number record_type))) ≡ false
      → RefusesText origin record_type tokens UnsupportedRecordType
  bad_tokens : {error : RDataParseError} → has_text (kinds_of_type (type_of (type_number record_type))) ≡ true
      → RefusesTokens origin (kinds_of_type (type_of (type_number record_type))) tokens error
      → RefusesText origin record_type tokens error

-- the fields of data, or its bytes if its type has no text form
abbrev pub data_text : RData → List ℕ
data_text (of.OPT options) = generic_text (flat_map option_form options)
data_text (of.Update0 t) = generic_text []
data_text (of.Unknown code bytes) = generic_text bytes
data_text d = values_text (data_kinds d) (data_values d)
