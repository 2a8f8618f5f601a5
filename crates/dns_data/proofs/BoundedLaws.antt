-- Kinds of fields whose values have at most 255 bytes, wherever the data ends.
use Rattle.std.proofs.Common.{◌≡◌, ℕ, ◌*◌, ◌<◌, ◌≤◌, Bool, true, false, List, [], ◌∷◌, length, subst, arith}
use Rattle.std.specs.List.{AllByRecursion}
use Rattle.std.specs.Int.{w16, w32, to_be_bytes}
use Rattle.std.specs.Net.Addr.{ipv4_octets, ipv6_octets, ipv6_segments}
use Rattle.dns_wire.specs.Encodable.{BytesAt, PiecesAt}
use Rattle.dns_wire.specs.Reading.{Reads, ReadsName, at_closing, at_label, at_pointer}
use Rattle.dns_wire.specs.declared.name_encoding.NameEncoding.TheVariants.{Uncompressed}
use Rattle.dns_wire.proofs.ReadingLaws.{reads_name-fits}
use Rattle.dns_wire.proofs.PieceLaws.{pieces_at-split}
use Rattle.dns_wire.proofs.SectionLaws.{pieces_max_len}
use Rattle.dns_data.specs.Field.{Kind, Number16, Number32, Seconds, Address4, Address6, CompressibleName, WholeName, Strings, Options, Opaque, ValueOf, Values, value_pieces, values_pieces, IsSoundValue, AreSoundValues}
use Rattle.dns_data.specs.Wire.{ValueAt, ValuesAt}
use Rattle.dns_data.proofs.WireLaws.{length-octets_of}
use Rattle.dns_data.proofs.LengthLaws.{pieces_max_len-append}

abbrev pub is_bounded : Kind → Bool
is_bounded Strings = false
is_bounded Options = false
is_bounded Opaque = false
is_bounded kind = true

abbrev pub IsBounded : Kind → Type 0
IsBounded kind = is_bounded kind ≡ true

pub reads-ahead : {bytes : List ℕ} {place segment left end : ℕ} {labels : List (List ℕ)} → Reads bytes place segment left labels end → place < end
reads-ahead (at_closing e) = omega arith
reads-ahead (at_label e room r) = omega (arith, reads-ahead r)
reads-ahead (at_pointer e back r) = omega arith

module _ (bytes : List ℕ) (data_end : ℕ) where
  pub value_ahead : (kind : Kind) (place : ℕ) (value : ValueOf kind) (end : ℕ) → IsBounded kind → ValueAt bytes data_end kind place value end → place < end
  value_ahead Number16 place value end is h = omega (arith, h.0.ends)
  value_ahead Number32 place value end is h = omega (arith, h.0.ends)
  value_ahead Seconds place value end is h = omega (arith, h.0.ends)
  value_ahead Address4 place value end is h = omega (arith, h.0.ends, h.1)
  value_ahead Address6 place value end is h = omega (arith, h.0.ends, h.1)
  value_ahead CompressibleName place value end is h = reads-ahead h.0
  value_ahead WholeName place value end is h = reads-ahead h.0
  value_ahead Strings place value end is h = absurd (cc)
  value_ahead Options place value end is h = absurd (cc)
  value_ahead Opaque place value end is h = absurd (cc)

  value_sound : (kind : Kind) (place : ℕ) (value : ValueOf kind) (end : ℕ) → IsBounded kind → ValueAt bytes data_end kind place value end → IsSoundValue kind value
  value_sound Number16 place value end is h = h.1
  value_sound Number32 place value end is h = h.1
  value_sound Seconds place value end is h = h.1
  value_sound Address4 place value end is h = h.1
  value_sound Address6 place value end is h = omega (arith, h.1, length-octets_of (ipv6_segments value))
  value_sound CompressibleName place value end is h = h.1
  value_sound WholeName place value end is h = h.1
  value_sound Strings place value end is h = absurd (cc)
  value_sound Options place value end is h = absurd (cc)
  value_sound Opaque place value end is h = absurd (cc)

  value_len : (kind : Kind) (place : ℕ) (value : ValueOf kind) (end : ℕ) → IsBounded kind → ValueAt bytes data_end kind place value end → pieces_max_len (value_pieces false kind value) ≤ 255
  value_len Number16 place value end is h = omega arith
  value_len Number32 place value end is h = omega arith
  value_len Seconds place value end is h = omega arith
  value_len Address4 place value end is h = omega (arith, h.1)
  value_len Address6 place value end is h = omega (arith, h.1)
  value_len CompressibleName place value end is h = omega (arith, (reads_name-fits h.0).fits)
  value_len WholeName place value end is h = omega (arith, (reads_name-fits h.0).fits)
  value_len Strings place value end is h = absurd (cc)
  value_len Options place value end is h = absurd (cc)
  value_len Opaque place value end is h = absurd (cc)

  -- the value of pieces
  value_at : (kind : Kind) (place : ℕ) (value : ValueOf kind) (end : ℕ) → IsBounded kind → IsSoundValue kind value → PiecesAt Uncompressed bytes place (value_pieces false kind value) end → ValueAt bytes data_end kind place value end
  value_at Number16 place value end is sound h = (subst (λ (n : ℕ). BytesAt bytes place (to_be_bytes w16 value) n) h.2 h.1, sound)
  value_at Number32 place value end is sound h = (subst (λ (n : ℕ). BytesAt bytes place (to_be_bytes w32 value) n) h.2 h.1, sound)
  value_at Seconds place value end is sound h = (subst (λ (n : ℕ). BytesAt bytes place (to_be_bytes w32 value) n) h.2 h.1, sound)
  value_at Address4 place value end is sound h = (subst (λ (n : ℕ). BytesAt bytes place (ipv4_octets value) n) h.2 h.1, sound)
  value_at Address6 place value end is sound h = (subst (λ (n : ℕ). BytesAt bytes place (ipv6_octets value) n) h.2 h.1, omega (arith, sound, length-octets_of (ipv6_segments value)))
  value_at CompressibleName place value end is sound h = (subst (λ (n : ℕ). ReadsName bytes place value.labels n) h.2 h.1, sound)
  value_at WholeName place value end is sound h = (subst (λ (n : ℕ). ReadsName bytes place value.labels n) h.2 h.1, sound)
  value_at Strings place value end is sound h = absurd (cc)
  value_at Options place value end is sound h = absurd (cc)
  value_at Opaque place value end is sound h = absurd (cc)

  -- ---- values of bounded kinds

  pub bounded-sound : (kinds : List Kind) (place : ℕ) (values : Values kinds) (end : ℕ) → AllByRecursion IsBounded kinds → ValuesAt bytes data_end kinds place values end → AreSoundValues kinds values
  bounded-sound [] place values end are h = tt
  bounded-sound (kind ∷ kinds) place values end are h = (value_sound kind place values.0 h.0 are.0 h.1, bounded-sound kinds h.0 values.1 end are.1 h.2)

  pub bounded-len : (kinds : List Kind) (place : ℕ) (values : Values kinds) (end : ℕ) → AllByRecursion IsBounded kinds → ValuesAt bytes data_end kinds place values end → pieces_max_len (values_pieces false kinds values) ≤ 255 * length kinds
  bounded-len [] place values end are h = omega arith
  bounded-len (kind ∷ kinds) place values end are h =
      omega (arith, value_len kind place values.0 h.0 are.0 h.1, bounded-len kinds h.0 values.1 end are.1 h.2, pieces_max_len-append (value_pieces false kind values.0) (values_pieces false kinds values.1))

  pub bounded-at : (kinds : List Kind) (place : ℕ) (values : Values kinds) (end : ℕ) → AllByRecursion IsBounded kinds → AreSoundValues kinds values → PiecesAt Uncompressed bytes place (values_pieces false kinds values) end → ValuesAt bytes data_end kinds place values end
  bounded-at [] place values end are sound h = h
  bounded-at (kind ∷ kinds) place values end are sound h =
      let split = pieces_at-split Uncompressed bytes place end (value_pieces false kind values.0) (values_pieces false kinds values.1) h in
      (split.0, value_at kind place values.0 split.0 are.0 sound.0 split.1, bounded-at kinds split.0 values.1 end are.1 sound.1 split.2)
