-- Messages whose record data is not decoded: what decodes is among them, and bytes have at most one.
use Rattle.std.proofs.Common.{◌≡◌, ℕ, ◌+◌, ◌≤◌, false, List, [], ◌∷◌, length, take, drop, refl, sym, ap, subst, ◌∙◌, arith, length-take, length-drop}
use Rattle.dns_wire.specs.Decodable.{BytesAt, Follow}
use Rattle.dns_data.specs.rdata.{data_type, data_pieces, ReadsData}
use Rattle.dns_records.specs.Record.{Record, head_of, ReadsRecord}
use Rattle.dns_messages.specs.declared.message.Message.{Message}
use Rattle.dns_messages.specs.Grammar.{ReadsMessage}
use Rattle.dns_messages.specs.Section.{SectionKind, ReadsSection}
use Rattle.dns_message_bytes.specs.view.RecordView.{RawRecord, ReadsRaw}
use Rattle.dns_message_bytes.specs.view.RecordViews.{ReadsRecords}
use Rattle.dns_message_bytes.specs.view.MessageView.{RawMessage, ReadsRawMessage, DecodesRaw, DecodeRaws, DecodesRawMessage}
use Rattle.dns_message_bytes.proofs.WithinLaws.{pieces_within}

-- the bytes of the data
abbrev data_bytes : List ℕ → ℕ → ℕ → List ℕ
data_bytes bytes place len = take len (drop place bytes)

raw_record : (bytes : List ℕ) (place : ℕ) (r : Record) (end : ℕ) → ReadsRecord bytes place r end → (raw : RawRecord) × (ReadsRaw bytes place raw end × DecodesRaw bytes raw r)
raw_record bytes place r end reads =
    let at : ℕ = reads.data_place in
    let xs : List ℕ = data_bytes bytes at reads.len in
    let head = reads.head.there in
    let start : at ≤ length bytes = omega (arith, head.2.2.2.2.1.within, head.2.2.2.2.2) in
    let within : at + reads.len ≤ length bytes = pieces_within bytes at (data_pieces false r.rdata) (at + reads.len) start reads.rdata.there in
    let size : length xs ≡ reads.len = omega (arith, length-take reads.len (drop at bytes), length-drop at bytes, within) in
    let there : BytesAt bytes at xs (at + length xs) = record { ends = refl; within = omega (arith, within, size); there = ap (λ (n : ℕ). data_bytes bytes at n) size } in (
      record { head = head_of r reads.len; rdata = xs },
      (
        record { data_place = at; head = reads.head; len = size; there = subst (λ (n : ℕ). BytesAt bytes at xs n) (omega (arith, size, reads.ends)) there },
        record {
          head = ap (λ (n : ℕ). head_of r n) (sym size);
          place = at;
          there = there;
          rdata = subst (λ (n : ℕ). ReadsData bytes at (data_type r.rdata) n r.rdata) (sym size) reads.rdata;
        },
      ),
    )

raw_records : (bytes : List ℕ) (place : ℕ) (rs : List Record) (end : ℕ) → Follow (ReadsRecord bytes) place rs end → (raws : List RawRecord) × (Follow (ReadsRaw bytes) place raws end × (DecodeRaws bytes raws rs × (length raws ≡ length rs)))
raw_records bytes place [] end f = ([], (f, (tt, refl)))
raw_records bytes place (r ∷ rs) end f =
    let one = raw_record bytes place r f.0 f.1 in
    let more = raw_records bytes f.0 rs end f.2 in
    (one.0 ∷ more.0, ((f.0, one.1.0, more.1.0), ((one.1.1, more.1.1.0), omega (arith, more.1.1.1))))

raw_section : (bytes : List ℕ) (kind : SectionKind) (place count : ℕ) (rs : List Record) (end : ℕ) → ReadsSection bytes kind place count rs end → (raws : List RawRecord) × (ReadsRecords bytes place count raws end × DecodeRaws bytes raws rs)
raw_section bytes kind place count rs end reads =
    let raws = raw_records bytes place rs end reads.records in
    (raws.0, (record { records = raws.1.0; count_is = raws.1.1.1 ∙ reads.count_is }, raws.1.1.0))

pub raw_message : (bytes : List ℕ) (m : Message) → ReadsMessage bytes m → (raw : RawMessage) × (ReadsRawMessage bytes raw × DecodesRawMessage bytes raw m)
raw_message bytes m reads =
    let answers = raw_section bytes _ _ _ _ _ reads.answers in
    let authorities = raw_section bytes _ _ _ _ _ reads.authorities in
    let additionals = raw_section bytes _ _ _ _ _ reads.additionals in (
      record { head = reads.head; queries = m.queries; answers = answers.0; authorities = authorities.0; additionals = additionals.0 },
      (
        record {
          header = reads.header;
          queries_end = reads.queries_end;
          queries = reads.queries;
          answers_end = reads.answers_end;
          answers = answers.1.0;
          authorities_end = reads.authorities_end;
          authorities = authorities.1.0;
          end = reads.end;
          additionals = additionals.1.0;
        },
        record {
          metadata = reads.metadata;
          queries = refl;
          answers = answers.1.1;
          authorities = authorities.1.1;
          last = reads.last;
          additionals = additionals.1.1;
          ordinary = reads.ordinary;
          edns = reads.edns;
          signature = reads.signature;
        },
      ),
    )
