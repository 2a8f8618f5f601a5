-- What is sent for bytes that arrive (RFC 1035 section 4.1).
use Rattle.std.specs.Prelude.{◌≡◌, false, Bool, List, ℕ, Option, Some, None}
use Rattle.dns_messages.specs.declared.message_type.MessageType.TheVariants as kinds
use Rattle.dns_messages.specs.declared.header.Metadata.{Metadata}
use Rattle.dns_messages.specs.declared.message.Message.{Message}
use Rattle.dns_messages.specs.Encoding.{Encodes}
use Rattle.dns_messages.specs.Grammar.{ReadsMessage}
use Rattle.dns_messages.specs.Header.{peeked_metadata}
use Rattle.dns_zone.specs.declared.transport.Transport.{Transport}
use Rattle.dns_zone.specs.Request.{IsRequest}
use Rattle.dns_zone.specs.Rows.{ZoneContent}
use Rattle.dns_zone.specs.Serving.{has_query_header, reply_limit}
use Rattle.dns_authority.specs.declared.asked.AnyAnswer.{AnyAnswer}
use Rattle.dns_authority.specs.replies.Malformed.{IsOptFound, malformed_reply}
use Rattle.dns_authority.specs.replies.Reply.{reply}
use Rattle.dns_authority.specs.replies.Sending.{sent}

-- the reply to the header of a query that bytes begin with: FormErr, with an OPT record if the bytes have one
pub record IsFormErr (bytes out : List ℕ) : Type 0 where
  pub metadata : Metadata
  pub peeked : peeked_metadata bytes ≡ Some metadata
  pub asks : metadata.message_type ≡ kinds.Query
  pub has_opt : Bool
  pub is_found : IsOptFound bytes has_opt
  pub encodes : Encodes 512 (malformed_reply has_opt metadata) out

-- What is sent for bytes that are not a request: FormErr if they begin with the header of a query, or else nothing.
abbrev pub IsSentForOther : List ℕ → Option (List ℕ) → Type 0
IsSentForOther bytes None = has_query_header bytes ≡ false
IsSentForOther bytes (Some out) = IsFormErr bytes out

-- The bytes that are sent for bytes with the header of a query: those of the reply to the request that these are, or, if they do
-- not decode, those of the reply to their header.
pub data IsSentFor (any : AnyAnswer) (zones : List ZoneContent) (transport : Transport) (bytes out : List ℕ) : Type 0 where
  replied : (m : Message) → IsRequest bytes m → Encodes (reply_limit transport m) (sent (reply_limit transport m) (reply any zones m)) out
      → IsSentFor any zones transport bytes out
  malformed : ((m : Message) → ReadsMessage bytes m → ⊥) → IsFormErr bytes out → IsSentFor any zones transport bytes out

-- Each request has a reply. Only bytes that do not begin with the header of a query have none.
abbrev pub Responds : AnyAnswer → List ZoneContent → Transport → List ℕ → Option (List ℕ) → Type 0
Responds any zones transport bytes None = has_query_header bytes ≡ false
Responds any zones transport bytes (Some out) = IsSentFor any zones transport bytes out
