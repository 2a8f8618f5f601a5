-- Decoding the fields of record data (RFC 1035 section 3.3).
use Rattle.std.specs.Prelude.{◌≡◌, ◌≢◌, ◌+◌, ◌<◌, ◌≤◌, ◌^◌, true, ℕ, List, [], ◌∷◌, length, drop}
use Rattle.std.specs.Int.{w16, w32, to_be_bytes}
use Rattle.std.specs.Net.Addr.{ipv4_octets, ipv6_octets}
use Rattle.dns_wire.specs.Reading.{ReadsName, RefusesName}
use Rattle.dns_wire.specs.Encodable.{BytesAt, PiecesAt}
use Rattle.dns_wire.specs.declared.name_encoding.NameEncoding.TheVariants.{Uncompressed}
use Rattle.dns_wire.specs.declared.error.DecodeError.{DecodeError}
use Rattle.dns_wire.specs.declared.error.DecodeError.TheVariants.{InsufficientBytes, IncorrectRDataLengthRead}
use Rattle.dns_data.specs.Field.{OptionValue, Kind, Number16, Number32, Seconds, Address4, Address6, CompressibleName, WholeName, Strings, Options, Opaque, ValueOf, Values, string_pieces, option_pieces}

-- a character string
abbrev pub StringAt : List ℕ → ℕ → List ℕ → ℕ → Type 0
StringAt bytes place string end = PiecesAt Uncompressed bytes place (string_pieces string) end × (length string < 256)

-- an option
abbrev pub OptionAt : List ℕ → ℕ → OptionValue → ℕ → Type 0
OptionAt bytes place option end =
    PiecesAt Uncompressed bytes place (option_pieces option) end
    × ((option.code < 2 ^ 16) × (length option.bytes < 2 ^ 16))

-- Items follow one another until the data ends. The last may extend past its end.
pub data ItemsUpTo {Item : Type 0} (ItemAt : ℕ → Item → ℕ → Type 0) (data_end : ℕ) : ℕ → List Item → ℕ → Type 0 where
  no_more_items : {place : ℕ} → data_end ≤ place → ItemsUpTo ItemAt data_end place [] place
  one_more_item : {place middle end : ℕ} {item : Item} {items : List Item} → place < data_end → ItemAt place item middle
      → ItemsUpTo ItemAt data_end middle items end → ItemsUpTo ItemAt data_end place (item ∷ items) end

-- no item can be decoded at a place
abbrev pub NoneAt : {Item : Type 0} → (ℕ → Item → ℕ → Type 0) → ℕ → Type 0
NoneAt {Item} ItemAt place = (item : Item) (end : ℕ) → ¬ ItemAt place item end

-- Before the data ends, there is a place at which no item can be decoded.
pub data RefusesItems {Item : Type 0} (ItemAt : ℕ → Item → ℕ → Type 0) (data_end : ℕ) : ℕ → Type 0 where
  no_item_there : {place : ℕ} → place < data_end → NoneAt ItemAt place
      → RefusesItems ItemAt data_end place
  past_item : {place middle : ℕ} {item : Item} → place < data_end → ItemAt place item middle
      → RefusesItems ItemAt data_end middle → RefusesItems ItemAt data_end place

-- ValueAt bytes data_end kind place value end: the bytes from a place up to an end decode to the value, in data that ends
-- at data_end. Compression pointers in names are followed.
abbrev pub ValueAt : List ℕ → ℕ → (kind : Kind) → ℕ → ValueOf kind → ℕ → Type 0
ValueAt bytes data_end Number16 place number end = BytesAt bytes place (to_be_bytes w16 number) end × (number < 2 ^ 16)
ValueAt bytes data_end Number32 place number end = BytesAt bytes place (to_be_bytes w32 number) end × (number < 2 ^ 32)
ValueAt bytes data_end Seconds place seconds end = BytesAt bytes place (to_be_bytes w32 seconds) end × (seconds < 2 ^ 32)
ValueAt bytes data_end Address4 place address end = BytesAt bytes place (ipv4_octets address) end × (length (ipv4_octets address) ≡ 4)
ValueAt bytes data_end Address6 place address end = BytesAt bytes place (ipv6_octets address) end × (length (ipv6_octets address) ≡ 16)
ValueAt bytes data_end CompressibleName place name end = ReadsName bytes place name.labels end × (name.is_fqdn ≡ true)
ValueAt bytes data_end WholeName place name end = ReadsName bytes place name.labels end × (name.is_fqdn ≡ true)
ValueAt bytes data_end Strings place strings end = ItemsUpTo (StringAt bytes) data_end place strings end
ValueAt bytes data_end Options place options end = ItemsUpTo (OptionAt bytes) data_end place options end
ValueAt bytes data_end Opaque place opaque end = BytesAt bytes place opaque end × (end ≡ data_end)

-- the values of some kinds, one after another
abbrev pub ValuesAt : List ℕ → ℕ → (kinds : List Kind) → ℕ → Values kinds → ℕ → Type 0
ValuesAt bytes data_end [] place values end = place ≡ end
ValuesAt bytes data_end (kind ∷ kinds) place values end =
    (middle : ℕ) × ValueAt bytes data_end kind place values.0 middle × ValuesAt bytes data_end kinds middle values.1 end

-- fewer bytes are left than a value takes
abbrev pub IsShort : List ℕ → ℕ → ℕ → DecodeError → Type 0
IsShort bytes place len error = (error ≡ InsufficientBytes) × (length (drop place bytes) < len)

-- No value of the kind can be decoded at a place, with this error.
abbrev pub RefusesValue : List ℕ → ℕ → Kind → ℕ → DecodeError → Type 0
RefusesValue bytes data_end Number16 place error = IsShort bytes place 2 error
RefusesValue bytes data_end Number32 place error = IsShort bytes place 4 error
RefusesValue bytes data_end Seconds place error = IsShort bytes place 4 error
RefusesValue bytes data_end Address4 place error = IsShort bytes place 4 error
RefusesValue bytes data_end Address6 place error = IsShort bytes place 16 error
RefusesValue bytes data_end CompressibleName place error = RefusesName bytes place error
RefusesValue bytes data_end WholeName place error = RefusesName bytes place error
RefusesValue bytes data_end Strings place error = (error ≡ InsufficientBytes) × RefusesItems (StringAt bytes) data_end place
RefusesValue bytes data_end Options place error = (error ≡ InsufficientBytes) × RefusesItems (OptionAt bytes) data_end place
RefusesValue bytes data_end Opaque place error = (error ≡ InsufficientBytes) × (place + length (drop place bytes) < data_end)

-- The first fault that decoding some kinds meets.
pub data RefusesFields (bytes : List ℕ) (data_end : ℕ) : List Kind → ℕ → DecodeError → Type 0 where
  refused_value : {kind : Kind} {kinds : List Kind} {place : ℕ} {error : DecodeError} → RefusesValue bytes data_end kind place error
      → RefusesFields bytes data_end (kind ∷ kinds) place error
  past_value : {kind : Kind} {kinds : List Kind} {place middle : ℕ} {error : DecodeError} (value : ValueOf kind)
      → ValueAt bytes data_end kind place value middle → RefusesFields bytes data_end kinds middle error
      → RefusesFields bytes data_end (kind ∷ kinds) place error

-- The first fault that decoding the data of a record meets: one of a field, or the fields do not end where the data does.
pub data RefusesValues (bytes : List ℕ) (data_end : ℕ) (kinds : List Kind) (place : ℕ) : DecodeError → Type 0 where
  refused_field : {error : DecodeError} → RefusesFields bytes data_end kinds place error → RefusesValues bytes data_end kinds place error
  wrong_length : (values : Values kinds) {end : ℕ} → ValuesAt bytes data_end kinds place values end → end ≢ data_end
      → RefusesValues bytes data_end kinds place IncorrectRDataLengthRead
