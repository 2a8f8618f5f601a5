-- The canonical form of data decodes to its values with their names in lower case.
use Rattle.std.proofs.Common.{ℕ, true, false, List, [], ◌∷◌, flat_map}
use Rattle.dns_wire.specs.Encoder.{EncoderState, IsAtEnd}
use Rattle.dns_wire.specs.Writing.{ArePointerTargets}
use Rattle.dns_wire.specs.Encodable.{position_of, append_pieces, PiecesAt, AreWritable}
use Rattle.dns_wire.specs.declared.name_encoding.NameEncoding.{NameEncoding}
use Rattle.dns_wire.specs.declared.name_encoding.NameEncoding.TheVariants.{Uncompressed}
use Rattle.dns_wire.proofs.PieceLaws.{pieces_decode, pieces_at-join, pieces_at-split}
use Rattle.dns_data.specs.Field.{OptionValue, Kind, Number16, Number32, Seconds, Address4, Address6, CompressibleName, WholeName, Strings, Options, Opaque, ValueOf, Values, string_pieces, option_pieces, value_pieces, values_pieces, lower_value, lower_values, IsSoundValue, AreSoundValues}
use Rattle.dns_data.specs.Wire.{ValuesAt}
use Rattle.dns_data.specs.declared.rdata.RData.{RData}
use Rattle.dns_data.specs.rdata.{data_kinds, data_values, data_pieces}
use Rattle.dns_data.proofs.LayoutLaws.{layout_at}
use Rattle.dns_data.proofs.DataLaws.{data_layout}

lower_value-sound : (kind : Kind) (value : ValueOf kind) → IsSoundValue kind value → IsSoundValue kind (lower_value kind value)
lower_value-sound CompressibleName value sound = sound
lower_value-sound WholeName value sound = sound
lower_value-sound kind value sound = sound

lower_values-sound : (kinds : List Kind) (values : Values kinds) → AreSoundValues kinds values → AreSoundValues kinds (lower_values kinds values)
lower_values-sound [] values sound = sound
lower_values-sound (kind ∷ kinds) values sound = (lower_value-sound kind values.0 sound.0, lower_values-sound kinds values.1 sound.1)

module _ (encoding : NameEncoding) (bytes : List ℕ) where
  string_pieces_at : (place : ℕ) (strings : List (List ℕ)) (end : ℕ) → PiecesAt encoding bytes place (flat_map string_pieces strings) end → PiecesAt Uncompressed bytes place (flat_map string_pieces strings) end
  string_pieces_at place [] end h = h
  string_pieces_at place (x ∷ xs) end h = (h.0, h.1, (h.2.0, h.2.1, string_pieces_at h.2.0 xs end h.2.2))

  option_pieces_at : (place : ℕ) (options : List OptionValue) (end : ℕ) → PiecesAt encoding bytes place (flat_map option_pieces options) end → PiecesAt Uncompressed bytes place (flat_map option_pieces options) end
  option_pieces_at place [] end h = h
  option_pieces_at place (x ∷ xs) end h = (h.0, h.1, (h.2.0, h.2.1, (h.2.2.0, h.2.2.1, option_pieces_at h.2.2.0 xs end h.2.2.2)))

  value_pieces-lower : (kind : Kind) (place : ℕ) (value : ValueOf kind) (end : ℕ) → PiecesAt encoding bytes place (value_pieces true kind value) end → PiecesAt Uncompressed bytes place (value_pieces false kind (lower_value kind value)) end
  value_pieces-lower Number16 place value end h = h
  value_pieces-lower Number32 place value end h = h
  value_pieces-lower Seconds place value end h = h
  value_pieces-lower Address4 place value end h = h
  value_pieces-lower Address6 place value end h = h
  value_pieces-lower CompressibleName place value end h = h
  value_pieces-lower WholeName place value end h = h
  value_pieces-lower Strings place value end h = string_pieces_at place value end h
  value_pieces-lower Options place value end h = option_pieces_at place value end h
  value_pieces-lower Opaque place value end h = h

  values_pieces-lower : (kinds : List Kind) (place : ℕ) (values : Values kinds) (end : ℕ) → PiecesAt encoding bytes place (values_pieces true kinds values) end → PiecesAt Uncompressed bytes place (values_pieces false kinds (lower_values kinds values)) end
  values_pieces-lower [] place values end h = h
  values_pieces-lower (kind ∷ kinds) place values end h =
      let split = pieces_at-split encoding bytes place end (value_pieces true kind values.0) (values_pieces true kinds values.1) h in
      pieces_at-join Uncompressed bytes place split.0 end (value_pieces false kind (lower_value kind values.0)) (values_pieces false kinds (lower_values kinds values.1)) (value_pieces-lower kind place values.0 split.0 split.1) (values_pieces-lower kinds split.0 values.1 end split.2)

pub canonical_decodes : (w : EncoderState) (d : RData) → IsAtEnd w → ArePointerTargets w.bytes w.suffixes → AreSoundValues (data_kinds d) (data_values d) → AreWritable (data_pieces true d)
    → ValuesAt (append_pieces w (data_pieces true d)).bytes (append_pieces w (data_pieces true d)).offset (data_kinds d) w.offset (lower_values (data_kinds d) (data_values d)) (append_pieces w (data_pieces true d)).offset
canonical_decodes w d end targets sound are =
    let new : EncoderState = append_pieces w (data_pieces true d) in
    let there = (pieces_decode w.bytes (position_of w) (data_pieces true d) end targets are).0 in
    layout_at new.bytes w.offset new.offset (data_layout d) (lower_values (data_kinds d) (data_values d)) (lower_values-sound (data_kinds d) (data_values d) sound) (values_pieces-lower w.encoding new.bytes (data_kinds d) w.offset (data_values d) new.offset there)
