-- Records, as they are read in place.
use Rattle.std.proofs.Common.{◌≡◌, ℕ, ◌+◌, ◌<◌, ◌≤◌, true, List, [], ◌∷◌, ◌++◌, length, drop, refl, sym, ap, subst, ◌∙◌, arith, length-append, length-drop}
use Rattle.std.specs.Int.{w16, w32, to_be_bytes}
use Rattle.dns_wire.specs.codes.RecordType.{type_number, type_of}
use Rattle.dns_wire.specs.declared.codes.record_type.RecordType.{RecordType}
use Rattle.dns_wire.specs.Decoder.{Decoder, rest}
use Rattle.dns_wire.specs.Decodable.{BytesAt}
use Rattle.dns_wire.specs.Encodable.{Plain}
use Rattle.dns_wire.specs.Reading.{ReadsName}
use Rattle.dns_wire.specs.declared.error.DecodeError.TheVariants.{InsufficientBytes}
use Rattle.dns_wire.proofs.BytesAtLaws.{rest-bytes_at}
use Rattle.dns_records.specs.declared.record_head.RecordHead.{RecordHead}
use Rattle.dns_records.specs.RecordHead.{ReadsHead, class_for, short_head}
use Rattle.dns_message_bytes.specs.declared.view.record_view.Fields.{Fields}
use Rattle.dns_message_bytes.specs.declared.view.record_view.RecordView.{RecordView}
use Rattle.dns_message_bytes.specs.view.NameView.{IsNameOf}
use Rattle.dns_message_bytes.specs.view.internal.RecordFields.{fields_form, FitFields}
use Rattle.dns_message_bytes.specs.view.RecordView.{RawRecord, ReadsRaw, RefusesRaw, IsRecordOf, no_head, short_data}
use Rattle.dns_message_bytes.proofs.ListLaws.{plain_then}

-- a head with these fields
abbrev head_with : List (List ℕ) → Fields → RecordType → RecordHead
head_with labels f t = record {
  name = record { is_fqdn = true; labels = labels };
  record_type = t;
  dns_class = class_for t f.class;
  ttl = f.ttl;
  len = f.len;
}

fields-len : (f : Fields) (more : List ℕ) → length (fields_form f more) ≡ 10 + length more
fields-len f more =
    let T = to_be_bytes w16 f.record_type in
    let C = to_be_bytes w16 f.class in
    let L = to_be_bytes w32 f.ttl in
    let N = to_be_bytes w16 f.len in
    omega (arith, length-append T (C ++ (L ++ (N ++ more))), length-append C (L ++ (N ++ more)), length-append L (N ++ more), length-append N more)

module _ (bytes : List ℕ) (place : ℕ) (labels : List (List ℕ)) (d1 d2 : Decoder) (f : Fields) (round : (n : ℕ) → type_number (type_of n) ≡ n)
    (name : ReadsName bytes place labels d1.index) (same : d1.bytes ≡ bytes) (fields : rest d1 ≡ fields_form f (rest d2)) (fit : FitFields f) where
  within : d1.index + 10 ≤ length bytes
  within = omega (arith, fields-len f (rest d2), ap (λ (xs : List ℕ). length xs) fields, length-drop d1.index d1.bytes, ap (λ (xs : List ℕ). length xs) same)

  head_at : (t : RecordType) → t ≡ type_of f.record_type → ReadsHead bytes place (head_with labels f t) (d1.index + 2 + 2 + 4 + 2)
  head_at t is =
      let number : type_number t ≡ f.record_type = ap type_number is ∙ round f.record_type in
      let C = Plain (to_be_bytes w16 f.class) in
      let L = Plain (to_be_bytes w32 f.ttl) in
      let N = Plain (to_be_bytes w16 f.len) in
      let at : drop d1.index bytes ≡ to_be_bytes w16 (type_number t) ++ (to_be_bytes w16 f.class ++ (to_be_bytes w32 f.ttl ++ (to_be_bytes w16 f.len ++ rest d2))) =
      ap (drop d1.index) (sym same) ∙ fields ∙ ap (λ (n : ℕ). to_be_bytes w16 n ++ (to_be_bytes w16 f.class ++ (to_be_bytes w32 f.ttl ++ (to_be_bytes w16 f.len ++ rest d2)))) (sym number) in
      let start : d1.index ≤ length bytes = omega (arith, within) in
      let end = d1.index + 2 + 2 + 4 + 2 in
      record {
        fqdn = refl;
        type_fits = omega (arith, number, fit.type_fits);
        type_named = ap type_of number ∙ sym is;
        class = f.class;
        class_fits = fit.class_fits;
        class_named = refl;
        ttl_fits = fit.ttl_fits;
        len_fits = fit.len_fits;
        there = (
          d1.index,
          name,
          plain_then bytes d1.index 2 (to_be_bytes w16 (type_number t)) _ (C ∷ L ∷ N ∷ []) end refl start at (λ h1 w1.
              plain_then bytes (d1.index + 2) 2 (to_be_bytes w16 f.class) _ (L ∷ N ∷ []) end refl w1 h1 (λ h2 w2.
              plain_then bytes (d1.index + 2 + 2) 4 (to_be_bytes w32 f.ttl) _ (N ∷ []) end refl w2 h2 (λ h3 w3.
              plain_then bytes (d1.index + 2 + 2 + 4) 2 (to_be_bytes w16 f.len) (rest d2) [] end refl w3 h3 (λ h4 w4. refl)))),
        );
      }

  pub record_found : (view : RecordView) (d3 : Decoder) → d2.bytes ≡ d1.bytes → d2.index ≡ d1.index + 10 → rest d2 ≡ view.data.now ++ rest d3 → length view.data.now ≡ f.len → d3.index ≡ d2.index + f.len
      → IsNameOf view.name labels → view.record_type ≡ type_of f.record_type → view.dns_class ≡ class_for view.record_type f.class → view.ttl ≡ f.ttl
      → (r : RawRecord) × (ReadsRaw bytes place r d3.index × IsRecordOf view r)
  record_found view d3 same' index tail len end is_name is_type is_class is_ttl =
      let there : BytesAt bytes d2.index view.data.now (d2.index + length view.data.now) = rest-bytes_at bytes d2.index view.data.now (rest d3) (omega (arith, within, index)) (ap (drop d2.index) (sym (same' ∙ same)) ∙ tail) in
      let ends : d2.index + length view.data.now ≡ d3.index = omega (arith, len, end) in
      let place_is : d2.index ≡ d1.index + 2 + 2 + 4 + 2 = omega (arith, index) in (
        record { head = head_with labels f view.record_type; rdata = view.data.now },
        (
          record {
            data_place = d1.index + 2 + 2 + 4 + 2;
            head = head_at view.record_type is_type;
            len = len;
            there = subst (λ (n : ℕ). BytesAt bytes n view.data.now d3.index) place_is (subst (λ (n : ℕ). BytesAt bytes d2.index view.data.now n) ends there);
          },
          record { name = is_name; record_type = refl; dns_class = is_class; ttl = is_ttl; rdata = refl },
        ),
      )

  pub no_data : d2.bytes ≡ d1.bytes → d2.index ≡ d1.index + 10 → length (rest d2) < f.len → RefusesRaw bytes place InsufficientBytes
  no_data same' index short =
      let place_is : d2.index ≡ d1.index + 2 + 2 + 4 + 2 = omega (arith, index) in
      let here : rest d2 ≡ drop (d1.index + 2 + 2 + 4 + 2) bytes = ap (drop d2.index) (same' ∙ same) ∙ ap (λ (n : ℕ). drop n bytes) place_is in
      short_data (head_with labels f (type_of f.record_type)) (head_at (type_of f.record_type) refl) (omega (arith, short, ap (λ (xs : List ℕ). length xs) here))

pub no_fields : (bytes : List ℕ) (place : ℕ) (labels : List (List ℕ)) (d1 : Decoder) → ReadsName bytes place labels d1.index → d1.bytes ≡ bytes → length (rest d1) < 10 → RefusesRaw bytes place InsufficientBytes
no_fields bytes place labels d1 name same short = no_head (short_head name (omega (arith, short, ap (λ (xs : List ℕ). length (drop d1.index xs)) same)))
