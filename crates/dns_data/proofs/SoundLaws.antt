-- Data of numbers, addresses and names is sound if its values are: it takes at most 255 bytes for each field.
use Rattle.std.proofs.Common.{◌≡◌, ◌*◌, ◌<◌, ◌≤◌, ◌^◌, ℕ, false, List, [], ◌∷◌, length, ap, arith, length-append}
use Rattle.std.specs.Net.Addr.{ipv4_octets, octets_of}
use Rattle.dns_wire.specs.codes.RecordType.{type_number, type_of}
use Rattle.dns_wire.specs.Name.{name_len}
use Rattle.dns_wire.specs.Encodable.{Piece, Position, start_position, name_form, whole_form, form, after}
use Rattle.dns_wire.specs.declared.name_encoding.NameEncoding.TheVariants.{Uncompressed}
use Rattle.dns_wire.proofs.NameLaws.{length-whole_form}
use Rattle.dns_wire.proofs.SectionLaws.{name_form-most}
use Rattle.dns_wire.proofs.PieceLaws.{form-append}
use Rattle.dns_data.proofs.WireLaws.{length-octets_of}
use Rattle.dns_data.specs.Field.{Kind, Number16, Number32, Seconds, Address4, Address6, CompressibleName, WholeName, Strings, Options, Opaque, ValueOf, Values, value_pieces, values_pieces, IsSoundValue, AreSoundValues}
use Rattle.dns_data.specs.rdata.{data_type, data_kinds, data_values, HasFieldsOfType, IsSoundData}
use Rattle.dns_data.specs.declared.rdata.RData.{RData}

-- a number, an address, or a name of at most 255 bytes
abbrev pub IsShortValue : (kind : Kind) → ValueOf kind → Type 0
IsShortValue CompressibleName name = name_len name.labels ≤ 255
IsShortValue WholeName name = name_len name.labels ≤ 255
IsShortValue Strings strings = ⊥
IsShortValue Options options = ⊥
IsShortValue Opaque bytes = ⊥
IsShortValue kind value = Unit {0}

abbrev pub AreShortValues : (kinds : List Kind) → Values kinds → Type 0
AreShortValues [] values = Unit {0}
AreShortValues (kind ∷ kinds) values = IsShortValue kind values.0 × AreShortValues kinds values.1

short_value : (s : Position) (kind : Kind) (value : ValueOf kind) → IsSoundValue kind value → IsShortValue kind value → length (form s (value_pieces false kind value)) ≤ 255
short_value s Number16 number sound short = omega arith
short_value s Number32 number sound short = omega arith
short_value s Seconds seconds sound short = omega arith
short_value s Address4 address sound short = omega (arith, sound, length-append (ipv4_octets address) [])
short_value s Address6 address sound short = omega (arith, sound, length-octets_of address.segments, length-append (octets_of address.segments) [])
short_value s CompressibleName name sound short = omega (arith, short, name_form-most s name.labels, length-append (name_form s name.labels) [])
short_value s WholeName name sound short = omega (arith, short, length-whole_form name.labels, length-append (whole_form name.labels) [])
short_value s Strings strings sound short = absurd short
short_value s Options options sound short = absurd short
short_value s Opaque bytes sound short = absurd short

short_values : (s : Position) (kinds : List Kind) (values : Values kinds) → AreSoundValues kinds values → AreShortValues kinds values → length (form s (values_pieces false kinds values)) ≤ 255 * length kinds
short_values s [] values sound short = omega arith
short_values s (kind ∷ kinds) values sound short =
    let ps : List Piece = value_pieces false kind values.0 in
    let qs : List Piece = values_pieces false kinds values.1 in
    omega (arith, ap (λ (bytes : List ℕ). length bytes) (form-append s ps qs), length-append (form s ps) (form (after s ps) qs), short_value s kind values.0 sound.0 short.0, short_values (after s ps) kinds values.1 sound.1 short.1)

pub sound_data : (d : RData) → AreSoundValues (data_kinds d) (data_values d) → AreShortValues (data_kinds d) (data_values d) → length (data_kinds d) < 256 → HasFieldsOfType d
    → type_number (data_type d) < 2 ^ 16 → type_of (type_number (data_type d)) ≡ data_type d → IsSoundData d
sound_data d sound short few fields fits named = record {
  values = sound;
  fields = fields;
  type_fits = fits;
  type_named = named;
  fits = omega (arith, few, short_values (record start_position { encoding = Uncompressed }) (data_kinds d) (data_values d) sound short);
}
