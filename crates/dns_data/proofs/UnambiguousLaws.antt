-- Bytes decode to one value of record data, and are then not refused.
use Rattle.std.proofs.Common.{◌≡◌, ◌≢◌, ℕ, ◌+◌, ◌<◌, zero, suc, List, [], ◌∷◌, refl, sym, ap, subst, ◌∙◌, arith}
use Rattle.dns_wire.specs.declared.codes.record_type.RecordType.{RecordType}
use Rattle.dns_wire.specs.declared.codes.record_type.RecordType.TheVariants as types
use Rattle.dns_wire.specs.codes.RecordType.{type_number, type_of}
use Rattle.dns_wire.specs.declared.error.DecodeError.{DecodeError}
use Rattle.dns_data.specs.Field.{Kind, OptionValue, Values, AreSoundValues}
use Rattle.dns_data.specs.Wire.{OptionAt, ValuesAt}
use Rattle.dns_data.specs.declared.rdata.RData.{RData}
use Rattle.dns_data.specs.declared.rdata.RData.TheVariants as of
use Rattle.dns_data.specs.rdata.{data_type, data_kinds, data_values, kinds_of_type, empty_data, HasFieldsOfType, ReadsData, RefusesData}
use Rattle.dns_data.proofs.WireLaws.{values_same, data_not_refused, data_refusal_same}
use Rattle.dns_data.proofs.LayoutLaws.{layout_at, items-ahead, no_values}
use Rattle.dns_data.proofs.DataLaws.{data_layout}
use Rattle.dns_data.proofs.TypeLaws.{data_of, opaque_values}

module _ (bytes : List ℕ) (place data_end : ℕ) where
  -- data is that of its type with its values
  abbrev pub HasValues : RecordType → RData → Type 0
  HasValues t d = (v : Values (kinds_of_type t)) × (d ≡ data_of t v) × ValuesAt bytes data_end (kinds_of_type t) place v data_end

  has_values : (d : RData) → HasFieldsOfType d → place < data_end → ValuesAt bytes data_end (data_kinds d) place (data_values d) data_end → HasValues (data_type d) d
  has_values (of.Update0 t) fields some h = absurd (omega (arith, some, h))
  has_values (of.Unknown code bs) fields some h = opaque_values (λ (kinds : List Kind) (v : Values kinds). ValuesAt bytes data_end kinds place v data_end) code bs fields h
  has_values d fields some h = (data_values d, refl, h)

type_values : (bytes : List ℕ) (place len : ℕ) (t : RecordType) (d : RData) → 0 < len → ReadsData bytes place t len d → HasValues bytes place (place + len) (type_of (type_number t)) d
type_values bytes place len t d some r =
    subst (λ (u : RecordType). HasValues bytes place (place + len) u d) r.of_type (has_values bytes place (place + len) d r.sound.fields (omega (arith, some)) (layout_at bytes place (place + len) (data_layout d) (data_values d) r.sound.values r.there))

-- ---- empty data

empty_is : (t : RecordType) → t ≢ types.OPT → of.Update0 t ≡ empty_data t
empty_is types.OPT other = absurd (other refl)
empty_is t other = refl

module _ (bytes : List ℕ) (place : ℕ) where
  some_options : (o : List OptionValue) → ValuesAt bytes (place + 0) (data_kinds (of.OPT o)) place (data_values (of.OPT o)) (place + 0) → of.OPT o ≡ of.OPT []
  some_options [] h = refl
  some_options (x ∷ xs) h = absurd (omega (arith, items-ahead (OptionAt bytes) h.1))

  empty_values : (d : RData) → HasFieldsOfType d → AreSoundValues (data_kinds d) (data_values d) → ValuesAt bytes (place + 0) (data_kinds d) place (data_values d) (place + 0) → d ≡ empty_data (data_type d)
  empty_values (of.OPT o) fields sound h = some_options o h
  empty_values (of.Update0 t) fields sound h = empty_is t fields
  empty_values d fields sound h = absurd (no_values bytes place (data_kinds d) (data_values d) refl sound h)

  empty_same : (t : RecordType) (d : RData) → ReadsData bytes place t 0 d → d ≡ empty_data (type_of (type_number t))
  empty_same t d r = empty_values d r.sound.fields r.sound.values (layout_at bytes place (place + 0) (data_layout d) (data_values d) r.sound.values r.there) ∙ ap empty_data r.of_type

-- ---- laws

pub data_same : (bytes : List ℕ) (place len : ℕ) (t : RecordType) (a b : RData) → ReadsData bytes place t len a → ReadsData bytes place t len b → a ≡ b
data_same bytes place zero t a b r r' = empty_same bytes place t a r ∙ sym (empty_same bytes place t b r')
data_same bytes place (suc n) t a b r r' =
    let u : RecordType = type_of (type_number t) in
    let one = type_values bytes place (suc n) t a (omega arith) r in
    let two = type_values bytes place (suc n) t b (omega arith) r' in
    one.1 ∙ ap (data_of u) (values_same bytes (place + suc n) (kinds_of_type u) place one.0 two.0 (place + suc n) (place + suc n) one.2 two.2).0 ∙ sym two.1

pub read_data_not_refused : (bytes : List ℕ) (place len : ℕ) (t : RecordType) (d : RData) (error : DecodeError) → ReadsData bytes place t len d → RefusesData bytes place t len error → ⊥
read_data_not_refused bytes place len t d error r refused =
    let values = type_values bytes place len t d refused.0 r in
    data_not_refused bytes (place + len) (kinds_of_type (type_of (type_number t))) place values.0 values.2 refused.1

pub read_data_refusal_same : (bytes : List ℕ) (place len : ℕ) (t : RecordType) (error error' : DecodeError) → RefusesData bytes place t len error → RefusesData bytes place t len error' → error ≡ error'
read_data_refusal_same bytes place len t error error' r r' = data_refusal_same bytes (place + len) (kinds_of_type (type_of (type_number t))) place r.1 r'.1
