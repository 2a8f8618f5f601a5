-- Bytes that are refused are refused with one error.
use Rattle.std.proofs.Common.{◌≡◌, ℕ, List, refl, sym, subst}
use Rattle.dns_wire.specs.declared.error.DecodeError.{DecodeError}
use Rattle.dns_wire.proofs.ReadingLaws.{reads_not_refused, refuses_same}
use Rattle.dns_data.proofs.UnambiguousLaws.{read_data_refusal_same}
use Rattle.dns_records.specs.declared.record_head.RecordHead.{RecordHead}
use Rattle.dns_records.specs.RecordHead.{ReadsHead, RefusesHead, bad_owner, short_head}
use Rattle.dns_records.specs.Record.{RefusesDataOf, RefusesRecord, bad_head, bad_data}
use Rattle.dns_records.specs.internal.Records.{head_same, head_not_refused}

pub head_refusal_same : (bytes : List ℕ) (place : ℕ) (error error' : DecodeError) → RefusesHead bytes place error → RefusesHead bytes place error' → error ≡ error'
head_refusal_same bytes place error error' (bad_owner r) (bad_owner r') = refuses_same r r'
head_refusal_same bytes place error error' (bad_owner r) (short_head name short) = absurd (reads_not_refused name r)
head_refusal_same bytes place error error' (short_head name short) (bad_owner r) = absurd (reads_not_refused name r)
head_refusal_same bytes place error error' (short_head name short) (short_head name' short') = refl

-- data after a head that is read, perhaps twice
pub data_refusal_same : (bytes : List ℕ) (place : ℕ) (h h' : RecordHead) (data_place data_place' : ℕ) (error error' : DecodeError) → ReadsHead bytes place h data_place → ReadsHead bytes place h' data_place' → RefusesDataOf bytes data_place h error → RefusesDataOf bytes data_place' h' error' → error ≡ error'
data_refusal_same bytes place h h' data_place data_place' error error' head head' r r' =
    let same = head_same bytes place h h' data_place data_place' head head' in
    read_data_refusal_same bytes data_place h.len h.record_type error error' r (subst (λ (n : ℕ). RefusesDataOf bytes n h error') (sym same.1) (subst (λ (x : RecordHead). RefusesDataOf bytes data_place' x error') (sym same.0) r'))

pub record_refusal_same : (bytes : List ℕ) (place : ℕ) (error error' : DecodeError) → RefusesRecord bytes place error → RefusesRecord bytes place error' → error ≡ error'
record_refusal_same bytes place error error' (bad_head r) (bad_head r') = head_refusal_same bytes place error error' r r'
record_refusal_same bytes place error error' (bad_head r) (bad_data h {data_place} head r') = absurd (head_not_refused bytes place h data_place error head r)
record_refusal_same bytes place error error' (bad_data h {data_place} head r) (bad_head r') = absurd (head_not_refused bytes place h data_place error' head r')
record_refusal_same bytes place error error' (bad_data h {data_place} head r) (bad_data h' {data_place = data_place'} head' r') = data_refusal_same bytes place h h' data_place data_place' error error' head head' r r'
