-- Replies that have a response code and nothing else (RFC 1035 section 4.1.1, RFC 6891 sections 6.1.3 and 7).
use Rattle.std.specs.Prelude.{◌/◌, ◌%◌, ℕ, [], ◌∷◌, Option, Some, None}
use Rattle.dns_messages.specs.declared.edns.Edns.{Edns}
use Rattle.dns_messages.specs.declared.message.Message.{Message}
use Rattle.dns_messages.specs.declared.query.Query.{Query}
use Rattle.dns_messages.specs.Header.{code_of, response_metadata}
use Rattle.dns_messages.specs.Message.{empty_message}

-- the number that a response code can have: twelve bits with an OPT record, and four without (RFC 6891 section 6.1.3)
abbrev pub coded_number : Option Edns → ℕ → ℕ
coded_number None number = number % 16
coded_number (Some e) number = number % 4096

-- The OPT record of a reply, if the request has one (RFC 6891 section 7): it has the upper eight bits of the code (section 6.1.3),
-- the request's DO (RFC 3225 section 3), and no options.
abbrev pub coded_edns : Option Edns → ℕ → Option Edns
coded_edns None number = None
coded_edns (Some e) number = Some (record {
  rcode_high = (number % 4096) / 16;
  version = 0;
  flags = record { dnssec_ok = e.flags.dnssec_ok; z = 0 };
  max_payload = 1232;
  options = [];
})

-- the reply to a request with the response code of a number: the question, and no records
abbrev pub coded_reply : Message → Query → ℕ → Message
coded_reply m q number = record (empty_message (record (response_metadata m.metadata) { response_code = code_of (coded_number m.edns number) })) {
  queries = q ∷ [];
  edns = coded_edns m.edns number;
}
