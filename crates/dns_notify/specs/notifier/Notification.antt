-- The message that notifies a secondary of a change (RFC 1996 sections 3.1, 3.2 and 3.7).
use Rattle.std.specs.Prelude.{true, [], ◌∷◌, ℕ}
use Rattle.dns_wire.specs.declared.codes.dns_class.DNSClass.TheVariants.{IN}
use Rattle.dns_wire.specs.declared.codes.record_type.RecordType.TheVariants.{SOA}
use Rattle.dns_messages.specs.declared.message_type.MessageType.TheVariants as kinds
use Rattle.dns_messages.specs.declared.op_code.OpCode.TheVariants as ops
use Rattle.dns_messages.specs.declared.header.Metadata.{Metadata}
use Rattle.dns_messages.specs.declared.query.Query.{Query}
use Rattle.dns_messages.specs.declared.message.Message.{Message}
use Rattle.dns_messages.specs.Header.{new_metadata}
use Rattle.dns_messages.specs.Message.{empty_message}
use Rattle.dns_names.specs.Name.{DomainName}
use Rattle.dns_records.specs.Record.{Record}

-- the record of the class IN with an owner, and with the TTL and the data of another
abbrev pub owned_by : DomainName → Record → Record
owned_by owner stored = record { name = owner; dns_class = IN; ttl = stored.ttl; rdata = stored.rdata }

-- the question for the SOA record of a zone
abbrev pub start_question : DomainName → Query
start_question origin = record { name = origin; query_type = SOA; query_class = IN }

-- the header: a request of the opcode NOTIFY, with AA
abbrev pub notify_metadata : ℕ → Metadata
notify_metadata id = record (new_metadata id kinds.Query ops.Notify) { authoritative = true }

-- the message: the question for the SOA record of the zone, and the record as a hint
abbrev pub notification : ℕ → DomainName → Record → Message
notification id origin start = record (empty_message (notify_metadata id)) {
  queries = start_question origin ∷ [];
  answers = owned_by origin start ∷ [];
}
