-- Which message bytes decode to, and how bytes that decode to none are refused (RFC 1035 section 4.1, RFC 6891 section 6.1).
-- Bytes after the last record are ignored.
use Rattle.std.specs.Prelude.{◌≡◌, ◌+◌, ◌*◌, ◌<◌, Bool, true, false, List, ℕ, length, drop, Option, Some, None}
use Rattle.dns_wire.specs.Reading.{ReadsName, RefusesName}
use Rattle.dns_wire.specs.Decodable.{Follow}
use Rattle.dns_wire.specs.declared.error.DecodeError.{DecodeError}
use Rattle.dns_wire.specs.declared.error.DecodeError.TheVariants.{InsufficientBytes}
use Rattle.dns_wire.specs.Encodable.{PiecesAt}
use Rattle.dns_wire.specs.declared.name_encoding.NameEncoding.TheVariants.{Uncompressed}
use Rattle.dns_records.specs.Record.{Record}
use Rattle.dns_messages.specs.declared.op_code.OpCode.{OpCode}
use Rattle.dns_messages.specs.declared.header.Metadata.{Metadata}
use Rattle.dns_messages.specs.declared.header.Header.{Header}
use Rattle.dns_messages.specs.declared.query.Query.{Query}
use Rattle.dns_messages.specs.declared.edns.Edns.{Edns}
use Rattle.dns_messages.specs.declared.message.Message.{Message}
use Rattle.dns_messages.specs.Header.{code_of, code_number, no_counts, DecodesHeader}
use Rattle.dns_messages.specs.Question.{question_pieces}
use Rattle.dns_messages.specs.Section.{SectionKind, ReadsSection, RefusesSection, ordinary_records, edns_in, signature_in}
use Rattle.dns_messages.specs.Sound.{IsSoundQuery, is_update_code}

-- ---- questions

-- a name, a type and a class
pub record ReadsQuestion (bytes : List ℕ) (place : ℕ) (q : Query) (end : ℕ) : Type 0 where
  pub sound : IsSoundQuery q
  pub there : PiecesAt Uncompressed bytes place (question_pieces q) end

-- No question can be decoded: its name is refused, or fewer bytes follow the name than type and class take.
pub data RefusesQuestion (bytes : List ℕ) (place : ℕ) : DecodeError → Type 0 where
  bad_question_name : {error : DecodeError} → RefusesName bytes place error → RefusesQuestion bytes place error
  short_question : {labels : List (List ℕ)} {name_end : ℕ} → ReadsName bytes place labels name_end
      → length (drop name_end bytes) < 4 → RefusesQuestion bytes place InsufficientBytes

-- the questions, as many as the header says
pub record ReadsQuestions (bytes : List ℕ) (place count : ℕ) (qs : List Query) (end : ℕ) : Type 0 where
  pub queries : Follow (ReadsQuestion bytes) place qs end
  pub count_is : length qs ≡ count

-- Questions at the front are read, and the next is refused.
pub record RefusesQuestions (bytes : List ℕ) (place count : ℕ) (error : DecodeError) : Type 0 where
  pub front : List Query
  pub middle : ℕ
  pub queries : Follow (ReadsQuestion bytes) place front middle
  pub counted : length front < count
  pub next : RefusesQuestion bytes middle error

-- ---- messages

-- a section of a message with this opcode
abbrev pub kind_of : OpCode → Bool → SectionKind
kind_of op is_additional = record { is_update = is_update_code op; is_additional = is_additional }

-- an answer or authority section, and the additional section, of a message with this header
abbrev pub section_kind : Header → SectionKind
section_kind h = kind_of h.metadata.op_code false

-- the additional section of a message with this header
abbrev pub additional_kind : Header → SectionKind
additional_kind h = kind_of h.metadata.op_code true

-- the metadata of a header, with the upper eight bits of the response code that an OPT record has (RFC 6891 section 6.1.3)
abbrev pub extended : Option Edns → Metadata → Metadata
extended None m = m
extended (Some e) m = record m { response_code = code_of (16 * e.rcode_high + code_number m.response_code) }

-- Header, questions, and three sections of records. The OPT record and a signature are taken out of the last section.
pub record ReadsMessage (bytes : List ℕ) (m : Message) : Type 0 where
  pub head : Header
  pub header : DecodesHeader bytes 0 head 12
  pub queries_end : ℕ
  pub queries : ReadsQuestions bytes 12 head.counts.queries m.queries queries_end
  pub answers_end : ℕ
  pub answers : ReadsSection bytes (section_kind head) queries_end head.counts.answers m.answers answers_end
  pub authorities_end : ℕ
  pub authorities : ReadsSection bytes (section_kind head) answers_end head.counts.authorities m.authorities authorities_end
  pub last : List Record
  pub end : ℕ
  pub additionals : ReadsSection bytes (additional_kind head) authorities_end head.counts.additionals last end
  pub ordinary : m.additionals ≡ ordinary_records last
  pub edns : m.edns ≡ edns_in last
  pub signature : m.signature ≡ signature_in last
  pub metadata : m.metadata ≡ extended m.edns head.metadata

-- Bytes begin with a header whose counts are all 0. They decode to a message that has nothing but this header.
pub record IsBareHeader (bytes : List ℕ) (h : Header) : Type 0 where
  pub header : DecodesHeader bytes 0 h 12
  pub counts : h.counts ≡ no_counts

-- How far a message was read when it was refused.
pub data RefusesMessage (bytes : List ℕ) : DecodeError → Type 0 where
  short_header : length bytes < 12 → RefusesMessage bytes InsufficientBytes
  bad_questions : {error : DecodeError} (h : Header) → DecodesHeader bytes 0 h 12
      → RefusesQuestions bytes 12 h.counts.queries error → RefusesMessage bytes error
  bad_answers : {error : DecodeError} (h : Header) (qs : List Query) (queries_end : ℕ) → DecodesHeader bytes 0 h 12
      → ReadsQuestions bytes 12 h.counts.queries qs queries_end
      → RefusesSection bytes (section_kind h) queries_end h.counts.answers error → RefusesMessage bytes error
  bad_authorities : {error : DecodeError} (h : Header) (qs : List Query) (answers : List Record)
      (queries_end answers_end : ℕ) → DecodesHeader bytes 0 h 12
      → ReadsQuestions bytes 12 h.counts.queries qs queries_end
      → ReadsSection bytes (section_kind h) queries_end h.counts.answers answers answers_end
      → RefusesSection bytes (section_kind h) answers_end h.counts.authorities error → RefusesMessage bytes error
  bad_additionals : {error : DecodeError} (h : Header) (qs : List Query) (answers authorities : List Record)
      (queries_end answers_end authorities_end : ℕ) → DecodesHeader bytes 0 h 12
      → ReadsQuestions bytes 12 h.counts.queries qs queries_end
      → ReadsSection bytes (section_kind h) queries_end h.counts.answers answers answers_end
      → ReadsSection bytes (section_kind h) answers_end h.counts.authorities authorities authorities_end
      → RefusesSection bytes (additional_kind h) authorities_end h.counts.additionals error
      → RefusesMessage bytes error
