-- Truncated replies (RFC 2181 section 9).
use Rattle.std.specs.Prelude.{◌≡◌, true, List, [], ℕ}
use Rattle.dns_wire.specs.Encoder.{max_message_len}
use Rattle.dns_wire.specs.declared.error.DecodeError.{DecodeError}
use Rattle.dns_messages.specs.declared.message.Message.{Message}
use Rattle.dns_messages.specs.Encoding.{Encodes, IsTooLong}
use Rattle.dns_messages.specs.Grammar.{ReadsMessage, RefusesMessage}
use Rattle.dns_messages.specs.Message.{truncated}

-- A reply is decoded, and encoded with TC and without records, except its OPT record. Bytes that do not decode, and questions
-- that do not fit in a message, stay as they are.
pub data IsTruncated (reply : List ℕ) : List ℕ → Type 0 where
  is_truncated : {bytes : List ℕ} (m : Message) → ReadsMessage reply m → Encodes max_message_len (truncated m) bytes
      → IsTruncated reply bytes
  is_unreadable : (error : DecodeError) → RefusesMessage reply error → IsTruncated reply reply
  is_too_long : (m : Message) → ReadsMessage reply m → IsTooLong max_message_len (truncated m) → IsTruncated reply reply

-- a message with TC, the questions of another one, and no records in its three sections
pub record HasNoRecords (m t : Message) : Type 0 where
  pub truncation : t.metadata.truncation ≡ true
  pub queries : t.queries ≡ m.queries
  pub answers : t.answers ≡ []
  pub authorities : t.authorities ≡ []
  pub additionals : t.additionals ≡ []
