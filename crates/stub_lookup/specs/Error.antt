-- Why a lookup found nothing.
use Rattle.std.specs.Prelude.{◌≡◌, ℕ, None, Result, Ok, Err}
use Rattle.dns_names.specs.declared.error.ParseError.{ParseError}
use Rattle.dns_names.specs.declared.error.ParseError.TheVariants as names
use Rattle.dns_messages.specs.declared.query.Query.{Query}
use Rattle.dns_messages.specs.declared.response_code.ResponseCode.{ResponseCode}
use Rattle.stub_lookup.specs.declared.error.LinkFault.{LinkFault}
use Rattle.stub_lookup.specs.declared.error.LinkFault.TheVariants.{NotSent, NotReceived, Quiet, NoMatch, StreamFailed, Truncated, StreamUnreadable, StreamMismatch, NoId}
use Rattle.stub_lookup.specs.declared.error.DnsError.TheVariants.{NoRecordsFound}
use Rattle.stub_lookup.specs.declared.error.NetError.{NetError}
use Rattle.stub_lookup.specs.declared.error.NetError.TheVariants.{Dns, Proto, Memory}
use Rattle.stub_lookup.specs.declared.error.NoRecords.{NoRecords}

-- how reports number the faults
abbrev pub fault_number : LinkFault → ℕ
fault_number NotSent = 1
fault_number NotReceived = 2
fault_number Quiet = 3
fault_number NoMatch = 4
fault_number StreamFailed = 5
fault_number Truncated = 6
fault_number StreamUnreadable = 7
fault_number StreamMismatch = 8
fault_number NoId = 9

-- a negative answer without records
abbrev pub no_records : Query → ResponseCode → NoRecords
no_records query code = record {
  query = query;
  soa = None;
  ns = None;
  negative_ttl = None;
  response_code = code;
  authorities = None;
}

-- A negative answer consists of a question and a code: it has no SOA record, no name servers and no other records.
pub record HasNoRecords (answer : NoRecords) : Type 0 where
  pub soa : answer.soa ≡ None
  pub ns : answer.ns ≡ None
  pub authorities : answer.authorities ≡ None

-- a text is not a name, or there was no memory for the name
abbrev pub error_of_name : ParseError → NetError
error_of_name names.Memory = Memory
error_of_name error = Proto error

-- an error as the negative answer that it is, or as another error
abbrev pub negative_answer : NetError → Result NoRecords NetError
negative_answer (Dns (NoRecordsFound answer)) = Ok answer
negative_answer error = Err error
