-- Data by type: what it decodes from, and that it is sound.
use Rattle.std.proofs.Common.{◌≡◌, ◌≢◌, ℕ, ◌+◌, ◌<◌, ◌^◌, false, List, [], refl, sym, ap, subst, ◌∙◌, arith}
use Rattle.dns_wire.specs.declared.codes.record_type.RecordType.{RecordType}
use Rattle.dns_wire.specs.declared.codes.record_type.RecordType.TheVariants as types
use Rattle.dns_wire.specs.codes.RecordType.{type_number, type_of}
use Rattle.dns_wire.specs.declared.error.DecodeError.TheVariants.{IncorrectRDataLengthRead}
use Rattle.dns_data.specs.Field.{Kind}
use Rattle.dns_data.specs.Wire.{ValuesAt, RefusesValues, wrong_length}
use Rattle.dns_data.specs.declared.rdata.RData.{RData}
use Rattle.dns_data.specs.declared.rdata.RData.TheVariants as of
use Rattle.dns_data.specs.rdata.{data_type, data_kinds, data_values, kinds_of_type, empty_data, data_pieces, HasFieldsOfType, ReadsData}
use Rattle.dns_data.proofs.WireLaws.{values_pieces_at}
use Rattle.dns_data.proofs.LengthLaws.{form-whole}
use Rattle.dns_data.proofs.LayoutLaws.{IsLayout, layout_of, layout_sound, layout_fits}

pub data_layout : (d : RData) → IsLayout (data_kinds d)
data_layout (of.Update0 t) = layout_of [] refl
data_layout d = layout_of (data_kinds d) refl

-- data of a type has its fields, unless it has no byte
module _ (bytes : List ℕ) (place len : ℕ) where
  has_fields : (d : RData) (end : ℕ) → data_kinds d ≡ kinds_of_type (data_type d) → 0 < len → end ≡ place + len → ValuesAt bytes (place + len) (data_kinds d) place (data_values d) end → HasFieldsOfType d
  has_fields (of.Update0 t) end e some all h = absurd (omega (arith, some, all, h))
  has_fields d end e some all h = e

  -- data of a type, whose fields end where the data does
  pub reads_data : (t : RecordType) (d : RData) (end : ℕ) → type_number t < 2 ^ 16 → type_number (type_of (type_number t)) ≡ type_number t → data_type d ≡ type_of (type_number t) → data_kinds d ≡ kinds_of_type (type_of (type_number t)) → 0 < len → len < 2 ^ 16 → end ≡ place + len
      → ValuesAt bytes (place + len) (data_kinds d) place (data_values d) end → ReadsData bytes place t len d
  reads_data t d end fits again type kinds some small all h =
      let there = subst (λ (n : ℕ). ValuesAt bytes (place + len) (data_kinds d) place (data_values d) n) all h in
      let number : type_number (data_type d) ≡ type_number t = ap type_number type ∙ again in
      record {
        of_type = type;
        sound = record {
          values = layout_sound bytes place len (data_layout d) (data_values d) (place + len) some there;
          fields = has_fields d (place + len) (kinds ∙ ap kinds_of_type (sym type)) some refl there;
          type_fits = omega (arith, fits, number);
          type_named = ap type_of number ∙ sym type;
          fits = omega (arith, form-whole (data_pieces false d), layout_fits bytes place len (data_layout d) (data_values d) small there);
        };
        there = values_pieces_at bytes (place + len) (data_kinds d) place (data_values d) (place + len) there;
      }

  -- fields that end elsewhere
  pub wrong_end : (kinds : List Kind) (d : RData) (end : ℕ) → data_kinds d ≡ kinds → ValuesAt bytes (place + len) (data_kinds d) place (data_values d) end → end ≢ place + len → RefusesValues bytes (place + len) kinds place IncorrectRDataLengthRead
  wrong_end kinds d end e h other = subst (λ (ks : List Kind). RefusesValues bytes (place + len) ks place IncorrectRDataLengthRead) e (wrong_length (data_values d) h other)

-- ---- empty data

empty_update : (t u : RecordType) (bytes : List ℕ) (place : ℕ) → type_number u < 2 ^ 16 → type_number (type_of (type_number u)) ≡ type_number u → t ≡ type_of (type_number u) → t ≢ types.OPT → ReadsData bytes place u 0 (of.Update0 t)
empty_update t u bytes place fits again type other =
    let number : type_number t ≡ type_number u = ap type_number type ∙ again in
    record {
      of_type = type;
      sound = record { values = tt; fields = other; type_fits = omega (arith, fits, number); type_named = ap type_of number ∙ sym type; fits = omega arith };
      there = omega arith;
    }

empty_options : (u : RecordType) (bytes : List ℕ) (place : ℕ) → types.OPT ≡ type_of (type_number u) → ReadsData bytes place u 0 (of.OPT [])
empty_options u bytes place type = record {
  of_type = type;
  sound = record { values = (tt, tt); fields = refl; type_fits = omega arith; type_named = refl; fits = omega arith };
  there = omega arith;
}

-- empty data of each type
pub reads_empty : (t u : RecordType) (bytes : List ℕ) (place : ℕ) → type_number u < 2 ^ 16 → type_number (type_of (type_number u)) ≡ type_number u → t ≡ type_of (type_number u) → ReadsData bytes place u 0 (empty_data t)
reads_empty types.OPT u bytes place fits again type = empty_options u bytes place type
reads_empty t u bytes place fits again type = empty_update t u bytes place fits again type (λ e. cc)
