-- How a server of zones answers requests (RFC 1034 section 4.3.2, RFC 2136 section 3).
use Rattle.std.specs.Prelude.{◌≡◌, List, ℕ, Option, None}
use Rattle.dns_messages.specs.declared.message.Message.{Message}
use Rattle.dns_messages.specs.declared.op_code.OpCode.{OpCode}
use Rattle.dns_messages.specs.declared.op_code.OpCode.TheVariants as ops
use Rattle.dns_messages.specs.declared.response_code.ResponseCode.TheVariants.{Refused}
use Rattle.dns_messages.specs.Encoding.{Encodes}
use Rattle.dns_zone.specs.declared.transport.Transport.{Transport}
use Rattle.dns_zone.specs.Request.{IsEncodedReply, reply_without_zone}
use Rattle.dns_zone.specs.Rows.{ZoneContent}
use Rattle.dns_zone.specs.Serving.{reply_limit}
use Rattle.dns_zone.specs.declared.zone.serials.Serials.{Serials}
use Rattle.dns_server.specs.Maintaining.{update_route, zones_maintained}
use Rattle.dns_server.specs.Server.{IsReplyBy, route, zones_after}
use Rattle.dns_server.specs.declared.updates.Updates.{Updates}
use Rattle.dns_server.specs.declared.updates.Updates.TheVariants as may
use Rattle.dns_authority.specs.declared.asked.AnyAnswer.{AnyAnswer}
use Rattle.dns_authority.specs.replies.Reply.{reply}
use Rattle.dns_authority.specs.replies.Responding.{IsSentForOther}
use Rattle.dns_authority.specs.replies.Sending.{sent}
use Rattle.dns_authority.specs.declared.service.answering.Answering.{Answering}
use Rattle.dns_authority.specs.declared.service.answering.Answering.TheVariants.{Plain, Whole}

-- ---- replies

-- The bytes are what is sent of the reply to a request by all zones (RFC 1034 section 4.3.2).
abbrev pub IsWholeReply : AnyAnswer → List ZoneContent → Transport → Message → List ℕ → Type 0
IsWholeReply any zones transport m out = Encodes (reply_limit transport m) (sent (reply_limit transport m) (reply any zones m)) out

-- The bytes are the reply to an update: it is refused if its requestor may not update (RFC 2136 section 3.3).
abbrev pub IsUpdateReply : Updates → List ZoneContent → Transport → Message → List ℕ → Type 0
IsUpdateReply may.Allowed zones transport m out = IsReplyBy zones (update_route zones m) transport m out
IsUpdateReply may.Refused zones transport m out = IsEncodedReply (reply_without_zone m Refused) transport m out

-- the bytes are the reply to a request with an opcode
abbrev pub IsReplyByOp : AnyAnswer → Updates → OpCode → List ZoneContent → Transport → Message → List ℕ → Type 0
IsReplyByOp any updates ops.Update zones transport m out = IsUpdateReply updates zones transport m out
IsReplyByOp any updates other zones transport m out = IsWholeReply any zones transport m out

-- The bytes are the reply to a request in one of the two ways.
abbrev pub IsServiceReply : Answering → Updates → List ZoneContent → Transport → Message → List ℕ → Type 0
IsServiceReply Plain updates zones transport m out = IsReplyBy zones (route updates zones m) transport m out
IsServiceReply (Whole any serials) updates zones transport m out = IsReplyByOp any updates m.metadata.op_code zones transport m out

-- What is sent for bytes that are not a request: nothing, or FormErr for the header of a query.
abbrev pub IsReplyToOther : Answering → List ℕ → Option (List ℕ) → Type 0
IsReplyToOther Plain bytes found = found ≡ None
IsReplyToOther (Whole any serials) bytes found = IsSentForOther bytes found

-- ---- the zones after a request

-- the zones after an update, by whether its requestor may update
abbrev pub zones_updated : Serials → Updates → List ZoneContent → Message → List ZoneContent
zones_updated serials may.Allowed zones m = zones_maintained serials zones m
zones_updated serials may.Refused zones m = zones

-- the zones after a request with an opcode
abbrev pub zones_by_op : Serials → Updates → OpCode → List ZoneContent → Message → List ZoneContent
zones_by_op serials updates ops.Update zones m = zones_updated serials updates zones m
zones_by_op serials updates other zones m = zones

-- The zones after a request: only an update changes one.
abbrev pub zones_served : Answering → Updates → List ZoneContent → Message → List ZoneContent
zones_served Plain updates zones m = zones_after updates zones m
zones_served (Whole any serials) updates zones m = zones_by_op serials updates m.metadata.op_code zones m
