-- What a lookup found, and the response code of the server.
use Rattle.std.specs.Prelude.{Bool, true, false, List, [], Option, Some, None, Result, Ok, Err}
use Rattle.dns_records.specs.Record.{Record}
use Rattle.dns_messages.specs.declared.response_code.ResponseCode.{ResponseCode}
use Rattle.dns_messages.specs.declared.response_code.ResponseCode.TheVariants.{NXDomain}
use Rattle.stub_lookup.specs.Lookup.{LookupContent}
use Rattle.stub_lookup.specs.declared.error.DnsError.TheVariants as dns
use Rattle.stub_lookup.specs.declared.error.NetError.{NetError}
use Rattle.stub_lookup.specs.declared.error.NetError.TheVariants.{Dns}

-- the records that were found
abbrev pub records_of : Result LookupContent NetError → List Record
records_of (Ok lookup) = lookup.message.answers
records_of (Err error) = []

-- the response code, if a server replied
abbrev pub code_of : Result LookupContent NetError → Option ResponseCode
code_of (Ok lookup) = Some lookup.message.metadata.response_code
code_of (Err (Dns (dns.NoRecordsFound none))) = Some none.response_code
code_of (Err (Dns (dns.ResponseCode code))) = Some code
code_of (Err error) = None

-- whether a code says that the name does not exist (RFC 2308 section 2.1)
abbrev pub denies_name : Option ResponseCode → Bool
denies_name (Some NXDomain) = true
denies_name (Some code) = false
denies_name None = false
