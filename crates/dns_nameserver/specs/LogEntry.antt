-- What the log of a name server says of a request.
use Rattle.std.specs.Prelude.{◌≡◌, ◌≢◌, ◌⊎◌, ◌∷◌, ◌+◌, ◌*◌, if◌then◌else◌, nat_le, List, [], ℕ, Option, Some, None, option_map, length, slice_index, string_bytes}
use Rattle.dns_wire.specs.codes.CodeText.{class_text, type_text}
use Rattle.dns_names.specs.Print.{text_of_name}
use Rattle.dns_wire.specs.declared.error.DecodeError.{DecodeError}
use Rattle.dns_messages.specs.declared.header.Metadata.{Metadata}
use Rattle.dns_messages.specs.declared.message.Message.{Message}
use Rattle.dns_messages.specs.declared.query.Query.{Query}
use Rattle.dns_messages.specs.Grammar.{ReadsMessage, RefusesMessage}
use Rattle.dns_messages.specs.OpCode.{op_number}
use Rattle.dns_messages.specs.ResponseCode.{code_number}
use Rattle.dns_faults.specs.declared.rules.fault.Transport.{Transport}
use Rattle.dns_faults.specs.declared.rules.fault.Transport.TheVariants as transports
use Rattle.dns_log.specs.declared.entry.LogTransport.{LogTransport}
use Rattle.dns_log.specs.declared.entry.LogTransport.TheVariants as logged
use Rattle.dns_log.specs.declared.entry.ReplyCounts.{ReplyCounts}
use Rattle.dns_log.specs.declared.question.LogQuestion.{LogQuestion}
use Rattle.dns_nameserver.specs.declared.answered.Answered.{Answered}

-- the transport, as the log names it
abbrev pub log_transport : Transport → LogTransport
log_transport transports.Datagram = logged.Udp
log_transport transports.Stream = logged.Tcp

-- the number in two bytes, most significant first, if they are there
abbrev pub number_at : List ℕ → ℕ → Option ℕ
number_at bytes place =
    if nat_le (place + 2) (length bytes)
    then Some (256 * slice_index bytes place + slice_index bytes (place + 1)) else None

-- a number, or 0
abbrev pub number_or_zero : Option ℕ → ℕ
number_or_zero None = 0
number_or_zero (Some n) = n

-- the number of the opcode, if there is a header
abbrev pub op_of_header : Option Metadata → Option ℕ
op_of_header m = option_map (λ m. op_number m.op_code) m

-- bytes, or none
abbrev pub bytes_or_none : Option (List ℕ) → List ℕ
bytes_or_none None = []
bytes_or_none (Some bytes) = bytes

-- the bytes of what is sent, or none
abbrev pub reply_bytes : Answered → List ℕ
reply_bytes a = bytes_or_none (option_map (λ bytes. bytes.items) a.delivery.reply)

-- the numbers of records that a header states (RFC 1035 section 4.1.1), or zeros without a header
abbrev pub counts_of : List ℕ → ReplyCounts
counts_of reply = record {
  answers = number_or_zero (number_at reply 6);
  authorities = number_or_zero (number_at reply 8);
  additionals = number_or_zero (number_at reply 10);
}

-- ---- messages that are decoded

-- a question as text: its name, type and class (RFC 1035 section 4.1.2)
pub record IsLogged (q : Query) (question : LogQuestion) : Type 0 where
  pub name : string_bytes question.name ≡ text_of_name q.name
  pub record_type : string_bytes question.record_type ≡ type_text q.query_type
  pub class : string_bytes question.class ≡ class_text q.query_class

-- the only one of some questions, or none
abbrev pub IsOnly : List Query → Option LogQuestion → Type 0
IsOnly queries (Some question) = (q : Query) × (queries ≡ q ∷ []) × IsLogged q question
IsOnly queries None = length queries ≢ 1

-- the question of a request, if it decodes and has exactly one
abbrev pub HasQuestion : List ℕ → Option LogQuestion → Type 0
HasQuestion request question = ((m : Message) × ReadsMessage request m × IsOnly m.queries question)
    ⊎ ((error : DecodeError) × RefusesMessage request error × (question ≡ None))

-- the number of the response code of a reply, if it decodes (RFC 1035 section 4.1.1, RFC 6891 section 6.1.3)
abbrev pub HasCode : List ℕ → Option ℕ → Type 0
HasCode reply code = ((m : Message) × ReadsMessage reply m × (code ≡ Some (code_number m.metadata.response_code)))
    ⊎ ((error : DecodeError) × RefusesMessage reply error × (code ≡ None))
