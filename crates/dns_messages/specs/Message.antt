-- Messages that are made from others, and their records (RFC 1035 section 4.1).
use Rattle.std.specs.Prelude.{◌≡◌, ◌==◌, ◌++◌, ◌||◌, not, if◌then◌else◌, Bool, true, List, [], ◌∷◌, ℕ, max, Option, Some, None, ⊤}
use Rattle.std.specs.List.{filter}
use Rattle.dns_wire.specs.codes.RecordType.{type_number, is_dnssec_type}
use Rattle.dns_wire.specs.declared.codes.record_type.RecordType.{RecordType}
use Rattle.dns_data.specs.rdata.{data_type}
use Rattle.dns_records.specs.Record.{Record}
use Rattle.dns_messages.specs.declared.message_type.MessageType.{MessageType}
use Rattle.dns_messages.specs.declared.op_code.OpCode.{OpCode}
use Rattle.dns_messages.specs.declared.response_code.ResponseCode.{ResponseCode}
use Rattle.dns_messages.specs.declared.header.Metadata.{Metadata}
use Rattle.dns_messages.specs.Header.{new_metadata}
use Rattle.dns_messages.specs.declared.edns.Edns.{Edns}
use Rattle.dns_messages.specs.declared.query.Query.{Query}
use Rattle.dns_messages.specs.declared.message.Message.{Message}

-- metadata with all flags clear, and with a response code
abbrev pub clear_metadata : ℕ → MessageType → OpCode → ResponseCode → Metadata
clear_metadata id message_type op_code response_code =
    record (new_metadata id message_type op_code) { response_code = response_code }

-- a message that has nothing but its metadata
abbrev pub empty_message : Metadata → Message
empty_message metadata = record {
  metadata = metadata;
  queries = [];
  answers = [];
  authorities = [];
  additionals = [];
  edns = None;
  signature = None;
}

-- there is no OPT record, or one without options
abbrev pub HasNoOptions : Option Edns → Type 0
HasNoOptions None = ⊤
HasNoOptions (Some e) = e.options ≡ []

-- a message without questions, records, options and a signature
pub record IsBare (m : Message) : Type 0 where
  pub queries : m.queries ≡ []
  pub answers : m.answers ≡ []
  pub authorities : m.authorities ≡ []
  pub additionals : m.additionals ≡ []
  pub options : HasNoOptions m.edns
  pub signature : m.signature ≡ None

-- the message with TC set, and with no records but the OPT record (RFC 1035 section 4.1.1, RFC 2181 section 9)
abbrev pub truncated : Message → Message
truncated m = record m {
  metadata = record m.metadata { truncation = true };
  answers = [];
  authorities = [];
  additionals = [];
  signature = None;
}

-- the records of the three sections, in order
abbrev pub all_records : Message → List Record
all_records m = m.answers ++ (m.authorities ++ m.additionals)

-- ---- DNSSEC (RFC 3225 section 3)

-- what is left for an asker who does not want DNSSEC: records of the type that was asked for, and records of other types
-- than those of DNSSEC
abbrev pub is_without_dnssec : RecordType → Record → Bool
is_without_dnssec asked r =
    (type_number (data_type r.rdata) == type_number asked) || not (is_dnssec_type (data_type r.rdata))

-- the message without the records that an asker for this type does not want
abbrev pub strip_sections : RecordType → Message → Message
strip_sections asked m = record m {
  answers = filter (is_without_dnssec asked) m.answers;
  authorities = filter (is_without_dnssec asked) m.authorities;
  additionals = filter (is_without_dnssec asked) m.additionals;
}

-- without a question nothing is known to be unwanted
abbrev pub strip_for : List Query → Message → Message
strip_for [] m = m
strip_for (q ∷ qs) m = strip_sections q.query_type m

-- the message as it is sent to an asker who has set DO, or has not (RFC 3225 section 3)
abbrev pub stripped : Bool → Message → Message
stripped dnssec_ok m = if dnssec_ok then m else strip_for m.queries m

-- ---- the OPT record

-- how many bytes a reply may have (RFC 6891 section 6.2.3)
abbrev pub payload_of : Option Edns → ℕ
payload_of None = 512
payload_of (Some e) = max e.max_payload 512

-- the version of EDNS that a message announces: 0 without an OPT record (RFC 6891 section 6.1.3)
abbrev pub version_of : Option Edns → ℕ
version_of None = 0
version_of (Some e) = e.version
