-- A request of twelve octets, whose header announces a question that is not there, and the reply to it: FormErr (RFC 1035 section
-- 4.1.1).
use Rattle.std.proofs.Common.{ℕ, false, true, List, [], ◌∷◌, refl, arith}
use Rattle.dns_wire.specs.Reading.Refuses.{at_fault}
use Rattle.dns_wire.specs.declared.error.DecodeError.TheVariants.{InsufficientBytes}
use Rattle.dns_messages.proofs.DecodeLaws.{decodes_again}
use Rattle.dns_messages.specs.Encoding.{Encodes}
use Rattle.dns_messages.specs.Grammar.{ReadsMessage}
use Rattle.dns_messages.specs.Grammar.RefusesQuestion.{bad_question_name}
use Rattle.dns_messages.specs.Header.{DecodesHeader, new_metadata}
use Rattle.dns_messages.specs.declared.header.Header.{Header}
use Rattle.dns_messages.specs.declared.header.Metadata.{Metadata}
use Rattle.dns_messages.specs.declared.message.Message.{Message}
use Rattle.dns_messages.specs.declared.message_type.MessageType.TheVariants as kinds
use Rattle.dns_messages.specs.declared.op_code.OpCode.TheVariants as ops
use Rattle.dns_message_bytes.proofs.OneRawMessageLaws.{raw_message_not_refused}
use Rattle.dns_message_bytes.proofs.RawMessageLaws.{raw_message}
use Rattle.dns_message_bytes.specs.view.MessageView.{RefusesRawMessage}
use Rattle.dns_message_bytes.specs.view.MessageView.RefusesRawMessage.{no_queries}
use Rattle.dns_authority.specs.replies.Malformed.{malformed_reply}
use Rattle.dns_authority.specs.replies.Malformed.IsOptFound.{formless}
use Rattle.dns_authority.specs.replies.Responding.{IsFormErr}

-- ---- the request

-- id 7, RD, and one question
abbrev pub request : List ℕ
request = 0 ∷ 7 ∷ 1 ∷ 0 ∷ 0 ∷ 1 ∷ 0 ∷ 0 ∷ 0 ∷ 0 ∷ 0 ∷ 0 ∷ []

abbrev metadata : Metadata
metadata = record (new_metadata 7 kinds.Query ops.Query) { recursion_desired = true }

abbrev header : Header
header = record { metadata = metadata; counts = record { queries = 1; answers = 0; authorities = 0; additionals = 0 } }

reads_header : DecodesHeader request 0 header 12
reads_header = record {
  third = 1;
  fourth = 0;
  there = record { ends = refl; within = omega arith; there = refl };
  metadata = refl;
  id_fits = omega arith;
  counts_fit = record { queries = omega arith; answers = omega arith; authorities = omega arith; additionals = omega arith };
}

is_refused : RefusesRawMessage request InsufficientBytes
is_refused = no_queries header reads_header (record { front = []; middle = 12; queries = refl; counted = omega arith; next = bad_question_name (at_fault refl) })

-- it decodes to no message
pub decodes_to_none : (m : Message) → ReadsMessage request m → ⊥
decodes_to_none m reads = let raw = raw_message request m reads in raw_message_not_refused request raw.0 raw.1.0 InsufficientBytes is_refused

-- ---- the reply

-- the same id and RD, QR, and FormErr
abbrev pub reply : List ℕ
reply = 0 ∷ 7 ∷ 129 ∷ 1 ∷ 0 ∷ 0 ∷ 0 ∷ 0 ∷ 0 ∷ 0 ∷ 0 ∷ 0 ∷ []

encodes : Encodes 512 (malformed_reply false metadata) reply
encodes = record {
  form_is = refl;
  decodes = λ sound. decodes_again 512 (malformed_reply false metadata) (omega arith) (omega arith) tt
      (record { answers = tt; authorities = tt; additionals = tt; edns = tt; signature = tt }) sound;
  within = omega arith;
  room = omega arith;
}

pub is_form_err : IsFormErr request reply
is_form_err = record { metadata = metadata; peeked = refl; asks = refl; has_opt = false; is_found = formless is_refused; encodes = encodes }
