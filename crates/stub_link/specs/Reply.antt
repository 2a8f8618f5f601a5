-- Which messages are the reply to a request (RFC 1035 section 7.3, RFC 5452 sections 3 and 9, RFC 2136 section 2.2).
use Rattle.std.specs.Prelude.{◌==◌, ◌&&◌, Bool, true, false, List, [], ◌∷◌, ℕ, Option, Some, None}
use Rattle.dns_messages.specs.declared.message_type.MessageType.{MessageType}
use Rattle.dns_messages.specs.declared.message_type.MessageType.TheVariants as kinds
use Rattle.dns_messages.specs.declared.op_code.OpCode.{OpCode}
use Rattle.dns_messages.specs.declared.op_code.OpCode.TheVariants as ops
use Rattle.dns_messages.specs.declared.header.Metadata.{Metadata}
use Rattle.dns_messages.specs.declared.query.Query.{Query}
use Rattle.dns_messages.specs.declared.message.Message.{Message}
use Rattle.dns_messages.specs.Question.{same_question}

-- A request is known by its id, and by its question if it is a query; an update has none.

-- the question of a request of an opcode; an update has none (RFC 2136 section 2)
abbrev pub question_under : OpCode → List Query → Option Query
question_under ops.Query (q ∷ []) = Some q
question_under code queries = None

-- the question of a request
abbrev pub question_in : Message → Option Query
question_in m = question_under m.metadata.op_code m.queries

-- whether a message is a response, by its QR bit (RFC 1035 section 4.1.1)
abbrev pub is_response : MessageType → Bool
is_response kinds.Response = true
is_response kinds.Query = false

-- a reply has the opcode of its request
abbrev pub is_reply_code : Option Query → OpCode → Bool
is_reply_code (Some q) ops.Query = true
is_reply_code None ops.Update = true
is_reply_code question code = false

-- The header of a reply: a response with the opcode and the id of the request.
abbrev pub is_reply_header : ℕ → Option Query → Metadata → Bool
is_reply_header id question m = is_response m.message_type && (is_reply_code question m.op_code && (m.id == id))

-- whether a datagram begins with a header, and with one of a reply to the request
abbrev pub has_reply_header : ℕ → Option Query → Option Metadata → Bool
has_reply_header id question (Some m) = is_reply_header id question m
has_reply_header id question None = false

-- The reply to a question repeats it: it has exactly one question, which asks the same. That to an update may have any.
abbrev pub repeats : Option Query → List Query → Bool
repeats (Some q) (asked ∷ []) = same_question q asked
repeats (Some q) queries = false
repeats None queries = true

-- whether a message is the reply to a request
abbrev pub matches : ℕ → Option Query → Message → Bool
matches id question m = is_reply_header id question m.metadata && repeats question m.queries
