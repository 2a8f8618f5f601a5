-- Responses to notifications (RFC 1996 sections 3.3 and 3.6).
use Rattle.std.specs.Prelude.{◌≡◌, ◌==◌, ◌&&◌, Bool, true, false, List, [], ◌∷◌, ℕ}
use Rattle.dns_messages.specs.declared.message_type.MessageType.{MessageType}
use Rattle.dns_messages.specs.declared.message_type.MessageType.TheVariants as kinds
use Rattle.dns_messages.specs.declared.op_code.OpCode.{OpCode}
use Rattle.dns_messages.specs.declared.op_code.OpCode.TheVariants as ops
use Rattle.dns_messages.specs.declared.query.Query.{Query}
use Rattle.dns_messages.specs.declared.message.Message.{Message}
use Rattle.dns_messages.specs.Grammar.{ReadsMessage}
use Rattle.dns_messages.specs.Question.{same_question}
use Rattle.dns_names.specs.Name.{DomainName}
use Rattle.dns_notify.specs.notifier.Notification.{start_question}

-- QR is set
abbrev pub is_response : MessageType → Bool
is_response kinds.Response = true
is_response kinds.Query = false

-- the opcode is NOTIFY
abbrev pub is_notify : OpCode → Bool
is_notify ops.Notify = true
is_notify other = false

-- whether there is one question, for the SOA record of a zone, ignoring ASCII case
abbrev pub asks_for_start : DomainName → List Query → Bool
asks_for_start origin (q ∷ []) = same_question q (start_question origin)
asks_for_start origin queries = false

-- whether a message is a response to the notification of a zone with an id
abbrev pub responds : ℕ → DomainName → Message → Bool
responds id origin m =
    is_response m.metadata.message_type
    && (is_notify m.metadata.op_code && ((m.metadata.id == id) && asks_for_start origin m.queries))

-- bytes are a response exactly if they decode to one
abbrev pub IsResponse : ℕ → DomainName → List ℕ → Bool → Type 0
IsResponse id origin bytes true = (m : Message) × (ReadsMessage bytes m × (responds id origin m ≡ true))
IsResponse id origin bytes false = (m : Message) → ReadsMessage bytes m → responds id origin m ≡ false
