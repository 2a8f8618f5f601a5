-- Messages as text, and encoded again.
use Rattle.std.specs.Prelude.{◌≡◌, List, ℕ}
use Rattle.api.specs.declared.buffer.refusal.Refusal.{Refusal}
use Rattle.api.specs.declared.buffer.refusal.Refusal.TheVariants as refusal
use Rattle.dns_messages.specs.Encoding.{Encodes, IsTooLong}
use Rattle.dns_messages.specs.Grammar.{ReadsMessage, RefusesMessage}
use Rattle.dns_messages.specs.Printed.{message_text}
use Rattle.dns_messages.specs.declared.message.Message.{Message}
use Rattle.dns_wire.specs.declared.error.DecodeError.{DecodeError}

-- the greatest length of a message (RFC 1035 section 4.2.2)
abbrev pub max_len : ℕ
max_len = 65535

-- the bytes decode to a message with this text
pub record IsTextOf (bytes text : List ℕ) : Type 0 where
  pub message : Message
  pub reads : ReadsMessage bytes message
  pub text_is : text ≡ message_text message

-- the bytes decode to a message that these encode
pub record IsEncodedAgain (bytes again : List ℕ) : Type 0 where
  pub message : Message
  pub reads : ReadsMessage bytes message
  pub encodes : Encodes max_len message again

-- a message decodes, and is too long to be encoded
pub record DecodesTooLong (bytes : List ℕ) : Type 0 where
  pub message : Message
  pub reads : ReadsMessage bytes message
  pub too_long : IsTooLong max_len message

-- why bytes are not decoded
abbrev pub IsUndecoded : List ℕ → Refusal → Type 0
IsUndecoded bytes refusal.Message = (error : DecodeError) × RefusesMessage bytes error
IsUndecoded bytes refusal.Memory = Unit {0}
IsUndecoded bytes other = ⊥

-- why a message is not encoded
abbrev pub IsTooLongToEncode : Message → Refusal → Type 0
IsTooLongToEncode message refusal.TooLong = IsTooLong max_len message
IsTooLongToEncode message refusal.Memory = Unit {0}
IsTooLongToEncode message other = ⊥

-- why bytes are not decoded and encoded again
abbrev pub IsNotEncodedAgain : List ℕ → Refusal → Type 0
IsNotEncodedAgain bytes refusal.TooLong = DecodesTooLong bytes
IsNotEncodedAgain bytes refusal.Message = IsUndecoded bytes refusal.Message
IsNotEncodedAgain bytes refusal.Memory = Unit {0}
IsNotEncodedAgain bytes other = ⊥
