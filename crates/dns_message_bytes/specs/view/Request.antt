-- Requests that are read in place: a header, one question, and at most an OPT record, whose names have no compression pointers
-- (RFC 1035 section 4.1, RFC 6891 section 6.1).
use Rattle.std.specs.Prelude.{◌≡◌, ◌<◌, ◌+◌, ◌*◌, ◌^◌, ℕ, List, [], ◌∷◌, ◌++◌, length, drop, max, flat_map, Option, Some, None}
use Rattle.std.specs.Int.{w16, w32, to_be_bytes}
use Rattle.std.specs.List.{AllByRecursion}
use Rattle.dns_wire.specs.codes.RecordType.{type_number}
use Rattle.dns_wire.specs.codes.DNSClass.{class_number}
use Rattle.dns_wire.specs.declared.codes.dns_class.DNSClass.TheVariants as classes
use Rattle.dns_wire.specs.Name.{AreLabels}
use Rattle.dns_wire.specs.Writing.{whole_form}
use Rattle.dns_data.specs.Field.{OptionValue, option_form}
use Rattle.dns_data.specs.declared.rdata.RData.TheVariants as of
use Rattle.dns_records.specs.Record.{Record}
use Rattle.dns_messages.specs.declared.header.Metadata.{Metadata}
use Rattle.dns_messages.specs.declared.header.Header.{Header}
use Rattle.dns_messages.specs.declared.header.HeaderCounts.{HeaderCounts}
use Rattle.dns_messages.specs.declared.query.Query.{Query}
use Rattle.dns_messages.specs.declared.edns.Edns.{Edns}
use Rattle.dns_messages.specs.declared.message.Message.{Message}
use Rattle.dns_messages.specs.Header.{code_of, code_number, DecodesHeader}
use Rattle.dns_messages.specs.Edns.{root_name, edns_of}
use Rattle.dns_messages.specs.Grammar.{extended}
use Rattle.dns_messages.specs.Sound.{IsSoundQuery}
use Rattle.dns_message_bytes.specs.declared.view.question_view.QuestionView.{QuestionView}
use Rattle.dns_message_bytes.specs.declared.view.option_view.OptionView.{OptionView}
use Rattle.dns_message_bytes.specs.declared.view.edns_view.EdnsView.{EdnsView}
use Rattle.dns_message_bytes.specs.declared.view.request_view.RequestView.{RequestView}

-- ---- questions

-- the encoding of a question whose name is not compressed: name, type and class (RFC 1035 section 4.1.2)
abbrev pub question_form : Query → List ℕ
question_form q =
    whole_form q.name.labels
    ++ (to_be_bytes w16 (type_number q.query_type) ++ to_be_bytes w16 (class_number q.query_class))

-- the question that is borrowed
abbrev pub question_of : QuestionView → Query
question_of q = record { name = q.name; query_type = q.query_type; query_class = q.query_class }

-- ---- the OPT record

-- an option whose code and whose length have 16 bits each (RFC 6891 section 6.1.2)
abbrev pub IsSoundOption : OptionValue → Type 0
IsSoundOption option = (option.code < 2 ^ 16) × (length option.bytes < 2 ^ 16)

-- the option that is borrowed
abbrev pub option_of : OptionView → OptionValue
option_of o = record { code = o.code; bytes = o.data.now }

-- the encoding of an OPT record: the root as a zero byte, the type, a payload size, a TTL, and the length of the options and the
-- options (RFC 6891 section 6.1.2)
abbrev pub opt_form : ℕ → ℕ → List ℕ → List ℕ
opt_form payload ttl options =
    0 ∷ (to_be_bytes w16 41 ++ (to_be_bytes w16 payload ++ (to_be_bytes w32 ttl
    ++ (to_be_bytes w16 (length options) ++ options))))

-- the OPT record; a payload size of less than 512 means 512 (RFC 6891 section 6.2.3)
abbrev pub opt_record : ℕ → ℕ → List OptionValue → Record
opt_record payload ttl options = record {
  name = root_name;
  dns_class = classes.OPT (max payload 512);
  ttl = ttl;
  rdata = of.OPT options;
}

-- Bytes begin with the encoding of an OPT record, which says this.
pub record ReadsOpt (bytes : List ℕ) (e : Edns) (more : List ℕ) : Type 0 where
  pub payload : ℕ
  pub ttl : ℕ
  pub options : List OptionValue
  pub there : bytes ≡ opt_form payload ttl (flat_map option_form options) ++ more
  pub payload_fits : payload < 2 ^ 16
  pub ttl_fits : ttl < 2 ^ 32
  pub len_fits : length (flat_map option_form options) < 2 ^ 16
  pub sound : AllByRecursion IsSoundOption options
  pub is : e ≡ edns_of (opt_record payload ttl options)

-- the view borrows this OPT record
pub record IsEdnsOf (view : EdnsView) (e : Edns) : Type 0 where
  pub rcode_high : view.rcode_high ≡ e.rcode_high
  pub version : view.version ≡ e.version
  pub flags : view.flags ≡ e.flags
  pub max_payload : view.max_payload ≡ e.max_payload
  pub options : view.options.now ≡ flat_map option_form e.options

-- the metadata of a header, with the upper eight bits of the response code, which the OPT record has (RFC 6891 section 6.1.3)
abbrev pub extended_by : Option EdnsView → Metadata → Metadata
extended_by None m = m
extended_by (Some e) m = record m { response_code = code_of (16 * e.rcode_high + code_number m.response_code) }

-- ---- requests

-- the additional section has so many records: none, or an OPT record
abbrev pub ReadsLast : List ℕ → ℕ → Option Edns → Type 0
ReadsLast bytes count None = count ≡ 0
ReadsLast bytes count (Some e) = (count ≡ 1) × ((more : List ℕ) × ReadsOpt bytes e more)

-- a message with one question, and no records but the OPT record
abbrev pub request_message : Metadata → Query → Option Edns → Message
request_message metadata question edns = record {
  metadata = metadata;
  queries = question ∷ [];
  answers = [];
  authorities = [];
  additionals = [];
  edns = edns;
  signature = None;
}

-- the counts of a request with so many additional records
abbrev pub request_counts : ℕ → HeaderCounts
request_counts count = record { queries = 1; answers = 0; authorities = 0; additionals = count }

-- Bytes begin with a request: a header, one question whose name is not compressed, and at most an OPT record. Bytes after it are
-- ignored.
pub record ReadsRequest (bytes : List ℕ) (m : Message) : Type 0 where
  pub head : Header
  pub header : DecodesHeader bytes 0 head 12
  pub counts : head.counts ≡ request_counts head.counts.additionals
  pub question : Query
  pub sound : IsSoundQuery question
  pub labels : AreLabels question.name.labels
  pub more : List ℕ
  pub there : drop 12 bytes ≡ question_form question ++ more
  pub edns : Option Edns
  pub last : ReadsLast more head.counts.additionals edns
  pub is : m ≡ request_message (extended edns head.metadata) question edns

-- the OPT record is borrowed, if there is one
abbrev pub MatchEdns : Option EdnsView → Option Edns → Type 0
MatchEdns None None = Unit {0}
MatchEdns (Some view) (Some e) = IsEdnsOf view e
MatchEdns view e = ⊥

-- the view borrows this request: its metadata, its question and its OPT record
pub record IsRequestOf (view : RequestView) (m : Message) : Type 0 where
  pub metadata : view.metadata ≡ m.metadata
  pub queries : m.queries ≡ question_of view.question ∷ []
  pub edns : MatchEdns view.edns m.edns
