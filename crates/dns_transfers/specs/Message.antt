-- The messages of a transfer (RFC 5936 section 2.2).
use Rattle.std.specs.Prelude.{map, Bool, true, List, [], Option, Some, None, option_map}
use Rattle.dns_messages.specs.declared.message_type.MessageType.TheVariants as kinds
use Rattle.dns_messages.specs.declared.op_code.OpCode.TheVariants as ops
use Rattle.dns_messages.specs.declared.header.Metadata.{Metadata}
use Rattle.dns_messages.specs.declared.edns.Edns.{Edns}
use Rattle.dns_messages.specs.declared.message.Message.{Message}
use Rattle.dns_messages.specs.Header.{new_metadata}
use Rattle.dns_messages.specs.Message.{empty_message}
use Rattle.dns_records.specs.Record.{Record}
use Rattle.dns_transfers.specs.declared.message.TransferMessage.{TransferMessage}
use Rattle.dns_transfers.specs.Records.{lent_record}

-- The header of each message: the id is the request's, AA is set, and RD is copied (RFC 5936 section 2.2.1).
abbrev pub transfer_metadata : Metadata → Metadata
transfer_metadata request = record (new_metadata request.id kinds.Response ops.Query) {
  authoritative = true;
  recursion_desired = request.recursion_desired;
}

-- an OPT record of version 0 without options, if its DO is given (RFC 6891 section 6.1.2, RFC 3225 section 3)
abbrev pub edns_of : Option Bool → Option Edns
edns_of None = None
edns_of (Some dnssec_ok) = Some (record {
  rcode_high = 0;
  version = 0;
  flags = record { dnssec_ok = dnssec_ok; z = 0 };
  max_payload = 1232;
  options = [];
})

-- The first message of the reply to a request, without its records: it repeats the question, and has an OPT record exactly if the
-- request has one (RFC 5936 section 2.2.2, RFC 6891 section 7).
abbrev pub first_message : Message → Message
first_message request = record (empty_message (transfer_metadata request.metadata)) {
  queries = request.queries;
  edns = edns_of (option_map {T = Edns} {U = Bool} (λ e. e.flags.dnssec_ok) request.edns);
}

-- a message with records in its answer section
abbrev pub with_answers : Message → List Record → Message
with_answers m records = record m { answers = records }

-- the message whose parts are borrowed
abbrev pub borrowed_message : TransferMessage → Message
borrowed_message m = record (empty_message m.metadata) {
  queries = m.queries.now;
  answers = map lent_record m.records.now;
  edns = m.edns;
}
