-- The replies of a zone's server (RFC 1035 sections 4.1 and 4.2, RFC 6891 sections 6 and 7).
use Rattle.std.specs.Prelude.{◌≡◌, ◌≤◌, length, min, true, false, Bool, List, [], ◌∷◌, ℕ, Option, Some, None}
use Rattle.dns_messages.specs.declared.message_type.MessageType.TheVariants as kinds
use Rattle.dns_messages.specs.declared.op_code.OpCode.{OpCode}
use Rattle.dns_messages.specs.declared.op_code.OpCode.TheVariants as ops
use Rattle.dns_messages.specs.declared.response_code.ResponseCode.{ResponseCode}
use Rattle.dns_messages.specs.declared.response_code.ResponseCode.TheVariants.{NoError, NXDomain, NotImp, FormErr}
use Rattle.dns_messages.specs.declared.header.Metadata.{Metadata}
use Rattle.dns_messages.specs.declared.edns.Edns.{Edns}
use Rattle.dns_messages.specs.declared.query.Query.{Query}
use Rattle.dns_messages.specs.declared.message.Message.{Message}
use Rattle.dns_zone.specs.declared.transport.Transport.{Transport}
use Rattle.dns_zone.specs.declared.transport.Transport.TheVariants.{Datagram, Stream}
use Rattle.dns_zone.specs.Rows.{ZoneContent}
use Rattle.dns_zone.specs.declared.zone.answer.Answer.{Answer}
use Rattle.dns_zone.specs.declared.zone.reply.ReplyRef.{ReplyRef}
use Rattle.dns_zone.specs.Answer.{answer}
use Rattle.dns_zone.specs.Section.{borrowed_answer}
use Rattle.dns_messages.specs.Header.{peeked_metadata}
use Rattle.dns_messages.specs.Message.{payload_of}
use Rattle.dns_messages.specs.Cut.{cut, cut_form}
use Rattle.dns_messages.specs.Grammar.{ReadsMessage}
use Rattle.dns_updates.specs.Change.{update_change}
use Rattle.dns_updates.specs.Code.{update_code}

-- whether a header is there and is that of a query
abbrev pub is_query : Option Metadata → Bool
is_query (Some m) = elim m.message_type [ kinds.Query ↦ true | kinds.Response ↦ false ]
is_query None = false

-- Whether bytes begin with the header of a query. There is no reply to any others, and this is decided before memory is taken.
abbrev pub has_query_header : List ℕ → Bool
has_query_header bytes = is_query (peeked_metadata bytes)

-- AA is set if the zone decides whether the records of a query exist (RFC 1035 section 4.1.1)
abbrev pub has_authority : OpCode → ResponseCode → Bool
has_authority ops.Query NoError = true
has_authority ops.Query NXDomain = true
has_authority op code = false

-- id, opcode, RD and CD are the request's
abbrev pub reply_metadata : Metadata → ResponseCode → Metadata
reply_metadata m code = record {
  id = m.id;
  message_type = kinds.Response;
  op_code = m.op_code;
  authoritative = has_authority m.op_code code;
  truncation = false;
  recursion_desired = m.recursion_desired;
  recursion_available = false;
  authentic_data = false;
  checking_disabled = m.checking_disabled;
  response_code = code;
}

-- A reply has an OPT record exactly if the request has one (RFC 6891 section 7). DO is the request's (RFC 3225 section 3).
abbrev pub reply_edns : Option Edns → Option Edns
reply_edns None = None
reply_edns (Some e) = Some (record {
  rcode_high = 0;
  version = 0;
  flags = record { dnssec_ok = e.flags.dnssec_ok; z = 0 };
  max_payload = 1232;
  options = [];
})

-- a reply without questions and records
abbrev pub bare_reply : Message → ResponseCode → Message
bare_reply m code = record {
  metadata = reply_metadata m.metadata code;
  queries = [];
  answers = [];
  authorities = [];
  additionals = [];
  edns = reply_edns m.edns;
  signature = None;
}

-- the reply to a question of a request: the question, and the zone's answer to it
abbrev pub query_reply : ZoneContent → Message → Query → Message
query_reply zone m q =
    let a : Answer = answer zone q in
    record (bare_reply m a.code) { queries = q ∷ []; answers = a.answers; authorities = a.authorities }

-- the reply to a request with opcode Query, which is malformed unless it has exactly one question
abbrev pub reply_to_queries : ZoneContent → Message → List Query → Message
reply_to_queries zone m (q ∷ []) = query_reply zone m q
reply_to_queries zone m queries = bare_reply m FormErr

-- the reply to a request with an opcode
abbrev pub reply_by_code : ZoneContent → Message → OpCode → Message
reply_by_code zone m ops.Query = reply_to_queries zone m m.queries
reply_by_code zone m ops.Update = bare_reply m (update_code zone.origin zone.rows m)
reply_by_code zone m other = bare_reply m NotImp

-- the whole reply to a request
abbrev pub reply : ZoneContent → Message → Message
reply zone m = reply_by_code zone m m.metadata.op_code

-- the message that a borrowed reply is
abbrev pub borrowed_reply : ReplyRef → Message
borrowed_reply r = record {
  metadata = r.metadata;
  queries = r.queries.now;
  answers = (borrowed_answer r.answer).answers;
  authorities = (borrowed_answer r.answer).authorities;
  additionals = [];
  edns = r.edns;
  signature = None;
}

-- The maximum size of a reply: in a datagram, what the request announces, at least 512 (RFC 6891 section 6.2.3), and no more
-- than the server's own maximum; in a stream, 65,535 (RFC 1035 sections 4.2.1 and 4.2.2).
abbrev pub reply_limit : Transport → Message → ℕ
reply_limit (Datagram limit) m = min limit (payload_of m.edns)
reply_limit Stream m = 65535

-- what is left of the reply under its limit
abbrev pub sent_reply : ZoneContent → Transport → Message → Message
sent_reply zone transport m = cut (reply_limit transport m) (reply zone m)

-- The bytes are the encoding of what is left of the reply to a request, decode to it, and are within its limit.
pub record IsReplyTo (zone : ZoneContent) (transport : Transport) (m : Message) (out : List ℕ) : Type 0 where
  pub form_is : out ≡ cut_form (reply_limit transport m) (reply zone m)
  pub decodes : ReadsMessage out (sent_reply zone transport m)
  pub within : length out ≤ reply_limit transport m

-- the zone after an update with this response code: only NoError changes its rows
abbrev pub zone_by_code : ZoneContent → Message → ResponseCode → ZoneContent
zone_by_code zone m NoError = record zone { rows = update_change zone.origin zone.rows m }
zone_by_code zone m fault = zone

-- the zone after a request with an opcode: only an update changes it
abbrev pub zone_by_op : ZoneContent → Message → OpCode → ZoneContent
zone_by_op zone m ops.Update = zone_by_code zone m (update_code zone.origin zone.rows m)
zone_by_op zone m other = zone

-- the zone after a request: only an update changes it (RFC 2136 section 3)
abbrev pub zone_after : ZoneContent → Message → ZoneContent
zone_after zone m = zone_by_op zone m m.metadata.op_code

-- the bytes are a query, out is its reply, and after is the zone that it leaves
pub record AreServed (zone : ZoneContent) (transport : Transport) (bytes out : List ℕ) (after : ZoneContent) : Type 0 where
  pub request : Message
  pub reads : ReadsMessage bytes request
  pub asks : request.metadata.message_type ≡ kinds.Query
  pub replied : IsReplyTo zone transport request out
  pub after_is : after ≡ zone_after zone request

-- Every query has a reply. Only bytes that do not decode, and responses, have none, and leave the zone unchanged.
abbrev pub Serves : ZoneContent → Transport → List ℕ → Option (List ℕ) → ZoneContent → Type 0
Serves zone transport bytes None after =
    (after ≡ zone) × ((m : Message) → ReadsMessage bytes m → m.metadata.message_type ≡ kinds.Response)
Serves zone transport bytes (Some out) after = AreServed zone transport bytes out after
