-- Requests: a message with one question, and options (RFC 1035 section 4.1.1, RFC 6891 section 6.1.1).
use Rattle.std.specs.Prelude.{if◌then◌else◌, [], ◌∷◌, max, Option, Some, None}
use Rattle.dns_messages.specs.Message.{clear_metadata, empty_message}
use Rattle.dns_messages.specs.declared.edns.Edns.{Edns}
use Rattle.dns_messages.specs.declared.header.Metadata.{Metadata}
use Rattle.dns_messages.specs.declared.message.Message.{Message}
use Rattle.dns_messages.specs.declared.message_type.MessageType.TheVariants as kinds
use Rattle.dns_messages.specs.declared.op_code.OpCode.TheVariants as ops
use Rattle.dns_messages.specs.declared.response_code.ResponseCode.TheVariants as codes
use Rattle.dns_messages.specs.declared.query.Query.{Query}
use Rattle.stub_config.specs.declared.request_options.DnsRequestOptions.{DnsRequestOptions}

-- the metadata of a query, with RD as the options say; the id is chosen when the request is sent
abbrev pub request_metadata : DnsRequestOptions → Metadata
request_metadata options =
    record (clear_metadata 0 kinds.Query ops.Query codes.NoError) { recursion_desired = options.recursion_desired }

-- an OPT record of version 0, with DO as the options say (RFC 3225 section 3), and a payload size of at least 512 bytes (RFC
-- 6891 section 6.2.3)
abbrev pub request_edns : DnsRequestOptions → Edns
request_edns options = record {
  rcode_high = 0;
  version = 0;
  flags = record { dnssec_ok = options.edns_set_dnssec_ok; z = 0 };
  max_payload = max options.edns_payload_len 512;
  options = [];
}

-- the OPT record, if the options say that requests have one
abbrev pub edns_if_used : DnsRequestOptions → Option Edns
edns_if_used options = if options.use_edns then Some (request_edns options) else None

-- the message that asks a question
abbrev pub request_of : Query → DnsRequestOptions → Message
request_of q options = record (empty_message (request_metadata options)) {
  queries = q ∷ [];
  edns = edns_if_used options;
}
