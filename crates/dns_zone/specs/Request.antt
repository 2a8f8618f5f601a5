-- Requests that are decoded, and replies to them that no zone decides (RFC 1035 section 4.1).
use Rattle.std.specs.Prelude.{◌≡◌, ◌≤◌, length, List, [], ◌∷◌, ℕ, Option, Some, None}
use Rattle.dns_messages.specs.declared.message_type.MessageType.TheVariants as kinds
use Rattle.dns_messages.specs.declared.op_code.OpCode.{OpCode}
use Rattle.dns_messages.specs.declared.op_code.OpCode.TheVariants as ops
use Rattle.dns_messages.specs.declared.response_code.ResponseCode.{ResponseCode}
use Rattle.dns_messages.specs.declared.query.Query.{Query}
use Rattle.dns_messages.specs.declared.message.Message.{Message}
use Rattle.dns_messages.specs.Cut.{cut, cut_form}
use Rattle.dns_messages.specs.Grammar.{ReadsMessage}
use Rattle.dns_messages.specs.Sound.{IsSound}
use Rattle.dns_zone.specs.declared.transport.Transport.{Transport}
use Rattle.dns_zone.specs.Serving.{bare_reply, reply_limit}

-- bytes are the encoding of a request
pub record IsRequest (bytes : List ℕ) (m : Message) : Type 0 where
  pub reads : ReadsMessage bytes m
  pub asks : m.metadata.message_type ≡ kinds.Query
  pub sound : IsSound m

-- the request that bytes are, or none: they do not decode, or are a response
abbrev pub DecodesRequest : List ℕ → Option Message → Type 0
DecodesRequest bytes None = (m : Message) → ReadsMessage bytes m → m.metadata.message_type ≡ kinds.Response
DecodesRequest bytes (Some m) = IsRequest bytes m

-- the question of a query that has exactly one
abbrev pub only_query : List Query → List Query
only_query (q ∷ []) = q ∷ []
only_query queries = []

-- the questions that a reply repeats if no zone decides it: the one of a query
abbrev pub repeated_by_code : OpCode → List Query → List Query
repeated_by_code ops.Query queries = only_query queries
repeated_by_code other queries = []

-- the questions of a request that such a reply repeats
abbrev pub repeated_queries : Message → List Query
repeated_queries m = repeated_by_code m.metadata.op_code m.queries

-- the reply with a response code that no zone decides: it has no records
abbrev pub reply_without_zone : Message → ResponseCode → Message
reply_without_zone m code = record (bare_reply m code) { queries = repeated_queries m }

-- The bytes are the encoding of what is left of a reply to a request, decode to it, and are within its limit.
pub record IsEncodedReply (whole : Message) (transport : Transport) (m : Message) (out : List ℕ) : Type 0 where
  pub form_is : out ≡ cut_form (reply_limit transport m) whole
  pub decodes : ReadsMessage out (cut (reply_limit transport m) whole)
  pub within : length out ≤ reply_limit transport m
