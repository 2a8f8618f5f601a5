-- Records whose data is not decoded: bytes have one at most, and then they are not refused.
use Rattle.std.proofs.Common.{◌≡◌, ℕ, List, length, refl, sym, ap, subst, ◌∙◌, arith, length-drop}
use Rattle.dns_wire.specs.Decoder.{Decoder}
use Rattle.dns_wire.specs.Decodable.{BytesAt}
use Rattle.dns_wire.specs.declared.error.DecodeError.{DecodeError}
use Rattle.dns_wire.specs.internal.NumberLaws.{same_bytes}
use Rattle.dns_records.specs.declared.record_head.RecordHead.{RecordHead}
use Rattle.dns_records.specs.internal.Records.{head_same, head_not_refused}
use Rattle.dns_records.proofs.RefusalLaws.{head_refusal_same}
use Rattle.dns_message_bytes.specs.view.RecordView.{RawRecord, ReadsRaw, RefusesRaw, no_head, short_data}

-- at most one record, and one end
pub raw_same : (bytes : List ℕ) (place : ℕ) (a b : RawRecord) (end end' : ℕ) → ReadsRaw bytes place a end → ReadsRaw bytes place b end' → (a ≡ b) × (end ≡ end')
raw_same bytes place a b end end' r r' =
    let heads = head_same bytes place a.head b.head r.data_place r'.data_place r.head r'.head in
    let lens : length a.rdata ≡ length b.rdata = r.len ∙ ap (λ (h : RecordHead). h.len) heads.0 ∙ sym r'.len in
    let there : BytesAt bytes r.data_place b.rdata end' = subst (λ (n : ℕ). BytesAt bytes n b.rdata end') (sym heads.1) r'.there in
    let rdatas = same_bytes bytes r.data_place a.rdata b.rdata end end' lens r.there there in
    (ap (λ (h : RecordHead). record a { head = h }) heads.0 ∙ ap (λ (d : List ℕ). record b { rdata = d }) rdatas.0, rdatas.1)

-- a record that is read is not refused
pub raw_not_refused : (bytes : List ℕ) (place : ℕ) (r : RawRecord) (end : ℕ) (error : DecodeError) → ReadsRaw bytes place r end → RefusesRaw bytes place error → ⊥
raw_not_refused bytes place r end error reads (no_head refused) = head_not_refused bytes place r.head reads.data_place error reads.head refused
raw_not_refused bytes place r end error reads (short_data h {data_place} head short) =
    let same = head_same bytes place r.head h reads.data_place data_place reads.head head in
    omega (arith, short, reads.there.ends, reads.there.within, reads.len, same.1, ap (λ (x : RecordHead). x.len) same.0, length-drop data_place bytes)

-- at most one fault
pub raw_refusal_same : (bytes : List ℕ) (place : ℕ) (error error' : DecodeError) → RefusesRaw bytes place error → RefusesRaw bytes place error' → error ≡ error'
raw_refusal_same bytes place error error' (no_head a) (no_head b) = head_refusal_same bytes place error error' a b
raw_refusal_same bytes place error error' (no_head a) (short_data h {data_place} head short) = absurd (head_not_refused bytes place h data_place error head a)
raw_refusal_same bytes place error error' (short_data h {data_place} head short) (no_head b) = absurd (head_not_refused bytes place h data_place error' head b)
raw_refusal_same bytes place error error' (short_data h head short) (short_data h' head' short') = refl

-- ---- from a copy of a decoder

here : (d from : Decoder) (place : ℕ) → place ≡ d.index → from ≡ record d { index = place } → from ≡ d
here d from place at is = is ∙ ap (λ (n : ℕ). record d { index = n }) at

pub no_fault : (d from : Decoder) (place : ℕ) (r : RawRecord) (end : ℕ) (error : DecodeError) → place ≡ d.index → from ≡ record d { index = place } → ReadsRaw from.bytes from.index r end → RefusesRaw d.bytes d.index error → ⊥
no_fault d from place r end error at is reads refused =
    raw_not_refused from.bytes from.index r end error reads (subst (λ (x : Decoder). RefusesRaw x.bytes x.index error) (sym (here d from place at is)) refused)

pub one_fault : (d from : Decoder) (place : ℕ) (error error' : DecodeError) → place ≡ d.index → from ≡ record d { index = place } → RefusesRaw from.bytes from.index error → RefusesRaw d.bytes d.index error' → error ≡ error'
one_fault d from place error error' at is refused refused' =
    raw_refusal_same d.bytes d.index error error' (subst (λ (x : Decoder). RefusesRaw x.bytes x.index error) (here d from place at is) refused) refused'
