-- Messages whose record data is not decoded (RFC 1035 section 4.1).
use Rattle.std.specs.Prelude.{◌≡◌, ◌+◌, ◌<◌, ℕ, List, [], ◌∷◌, length}
use Rattle.dns_wire.specs.Decodable.{BytesAt}
use Rattle.dns_wire.specs.declared.error.DecodeError.{DecodeError}
use Rattle.dns_wire.specs.declared.error.DecodeError.TheVariants.{InsufficientBytes}
use Rattle.dns_data.specs.rdata.{data_type, ReadsData}
use Rattle.dns_records.specs.Record.{Record, head_of}
use Rattle.dns_messages.specs.declared.header.Header.{Header}
use Rattle.dns_messages.specs.declared.message.Message.{Message}
use Rattle.dns_messages.specs.declared.query.Query.{Query}
use Rattle.dns_messages.specs.Header.{DecodesHeader}
use Rattle.dns_messages.specs.Grammar.{extended, ReadsQuestions, RefusesQuestions}
use Rattle.dns_messages.specs.Section.{ordinary_records, edns_in, signature_in}
use Rattle.dns_message_bytes.specs.view.RecordView.{RawRecord}
use Rattle.dns_message_bytes.specs.view.RecordViews.{ReadsRecords, RefusesRecords, HasRecords}
use Rattle.dns_message_bytes.specs.view.QueryViews.{HasQueries}
use Rattle.dns_message_bytes.specs.declared.view.message_view.MessageView.{MessageView}

-- a header and four sections
pub record RawMessage : Type 0 where
  pub head : Header
  pub queries : List Query
  pub answers : List RawRecord
  pub authorities : List RawRecord
  pub additionals : List RawRecord

-- Header, questions, and three sections of records, as many as the header says. Bytes after them are ignored.
pub record ReadsRawMessage (bytes : List ℕ) (m : RawMessage) : Type 0 where
  pub header : DecodesHeader bytes 0 m.head 12
  pub queries_end : ℕ
  pub queries : ReadsQuestions bytes 12 m.head.counts.queries m.queries queries_end
  pub answers_end : ℕ
  pub answers : ReadsRecords bytes queries_end m.head.counts.answers m.answers answers_end
  pub authorities_end : ℕ
  pub authorities : ReadsRecords bytes answers_end m.head.counts.authorities m.authorities authorities_end
  pub end : ℕ
  pub additionals : ReadsRecords bytes authorities_end m.head.counts.additionals m.additionals end

-- How far a message was read when it was refused.
pub data RefusesRawMessage (bytes : List ℕ) : DecodeError → Type 0 where
  no_header : length bytes < 12 → RefusesRawMessage bytes InsufficientBytes
  no_queries : {error : DecodeError} (h : Header) → DecodesHeader bytes 0 h 12
      → RefusesQuestions bytes 12 h.counts.queries error → RefusesRawMessage bytes error
  no_answers : {error : DecodeError} (h : Header) (qs : List Query) (queries_end : ℕ) → DecodesHeader bytes 0 h 12
      → ReadsQuestions bytes 12 h.counts.queries qs queries_end
      → RefusesRecords bytes queries_end h.counts.answers error → RefusesRawMessage bytes error
  no_authorities : {error : DecodeError} (h : Header) (qs : List Query) (answers : List RawRecord)
      (queries_end answers_end : ℕ) → DecodesHeader bytes 0 h 12
      → ReadsQuestions bytes 12 h.counts.queries qs queries_end
      → ReadsRecords bytes queries_end h.counts.answers answers answers_end
      → RefusesRecords bytes answers_end h.counts.authorities error → RefusesRawMessage bytes error
  no_additionals : {error : DecodeError} (h : Header) (qs : List Query) (answers authorities : List RawRecord)
      (queries_end answers_end authorities_end : ℕ) → DecodesHeader bytes 0 h 12
      → ReadsQuestions bytes 12 h.counts.queries qs queries_end
      → ReadsRecords bytes queries_end h.counts.answers answers answers_end
      → ReadsRecords bytes answers_end h.counts.authorities authorities authorities_end
      → RefusesRecords bytes authorities_end h.counts.additionals error → RefusesRawMessage bytes error

-- the view borrows this message
pub record IsMessageOf (view : MessageView) (m : RawMessage) : Type 0 where
  pub metadata : view.metadata ≡ m.head.metadata
  pub queries : HasQueries view.queries m.queries
  pub answers : HasRecords view.answers m.answers
  pub authorities : HasRecords view.authorities m.authorities
  pub additionals : HasRecords view.additionals m.additionals

-- ---- what decodes

-- the record has this head, and its data is decoded from these bytes, at their place in the message
pub record DecodesRaw (bytes : List ℕ) (raw : RawRecord) (r : Record) : Type 0 where
  pub head : raw.head ≡ head_of r (length raw.rdata)
  pub place : ℕ
  pub there : BytesAt bytes place raw.rdata (place + length raw.rdata)
  pub rdata : ReadsData bytes place (data_type r.rdata) (length raw.rdata) r.rdata

-- as many records, in their order
abbrev pub DecodeRaws : List ℕ → List RawRecord → List Record → Type 0
DecodeRaws bytes [] [] = Unit {0}
DecodeRaws bytes (raw ∷ raws) (r ∷ rs) = DecodesRaw bytes raw r × DecodeRaws bytes raws rs
DecodeRaws bytes raws rs = ⊥

-- The message has these parts, with their data decoded. The OPT record and the signature are taken out of the last section.
pub record DecodesRawMessage (bytes : List ℕ) (raw : RawMessage) (m : Message) : Type 0 where
  pub metadata : m.metadata ≡ extended m.edns raw.head.metadata
  pub queries : raw.queries ≡ m.queries
  pub answers : DecodeRaws bytes raw.answers m.answers
  pub authorities : DecodeRaws bytes raw.authorities m.authorities
  pub last : List Record
  pub additionals : DecodeRaws bytes raw.additionals last
  pub ordinary : m.additionals ≡ ordinary_records last
  pub edns : m.edns ≡ edns_in last
  pub signature : m.signature ≡ signature_in last
