-- The messages of requests in words.
use Rattle.std.specs.Prelude.{◌≡◌, ◌⊎◌, Bool, true, false, List, ℕ, Option, Some, None}
use Rattle.dns_wire.specs.Encoder.{max_message_len}
use Rattle.dns_messages.specs.Cut.{cut, is_cut, remaining}
use Rattle.dns_messages.specs.Encoding.{Encodes, IsTooLong}
use Rattle.dns_messages.specs.Header.{peeked_metadata}
use Rattle.dns_messages.specs.declared.header.Metadata.{Metadata}
use Rattle.dns_messages.specs.declared.message.Message.{Message}
use Rattle.nameserver_cli.specs.declared.replay.request.RequestFault.{RequestFault}
use Rattle.nameserver_cli.specs.declared.replay.request.RequestFault.TheVariants.{TooLong, Memory}

-- TC is set, if there is a header (RFC 1035 section 4.1.1)
abbrev pub has_truncation : Option Metadata → Bool
has_truncation None = false
has_truncation (Some metadata) = metadata.truncation

-- the bytes begin with a header that has TC set
abbrev pub is_truncated : List ℕ → Bool
is_truncated bytes = has_truncation (peeked_metadata bytes)

-- the bytes are those of the message, of which nothing was dropped
pub record IsWhole (message : Message) (bytes : List ℕ) : Type 0 where
  pub encodes : Encodes max_message_len message bytes
  pub whole : is_cut (remaining max_message_len message) message ≡ false

-- its header and its questions do not fit 65,535 bytes, or something of it would be dropped; or there was no memory
abbrev pub IsEncodingRefusal : Message → RequestFault → Type 0
IsEncodingRefusal message TooLong = IsTooLong max_message_len message ⊎ ((cut max_message_len message).metadata.truncation ≡ true)
IsEncodingRefusal message fault = fault ≡ Memory
