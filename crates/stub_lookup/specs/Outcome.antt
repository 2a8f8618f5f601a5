-- What a reply means: records, a negative answer, or an error (RFC 1034 section 5.3.3, RFC 2308 sections 2 and 5).
use Rattle.std.specs.Prelude.{◌||◌, if◌then◌else◌, Bool, true, false, List, [], ◌∷◌, Option, Some, None, Result, Ok, Err}
use Rattle.dns_wire.specs.declared.codes.dns_class.DNSClass.TheVariants.{IN}
use Rattle.dns_wire.specs.declared.codes.record_type.RecordType.TheVariants.{A}
use Rattle.dns_data.specs.declared.rdata.RData.{RData}
use Rattle.dns_data.specs.declared.rdata.RData.TheVariants as of
use Rattle.dns_data.specs.declared.rdata.soa.SOA.{SOA}
use Rattle.dns_records.specs.Record.{Record}
use Rattle.dns_records.specs.declared.record.Record as generic
use Rattle.dns_messages.specs.Response.{contains_answer, negative_ttl, soa_in}
use Rattle.dns_messages.specs.declared.message.Message.{Message}
use Rattle.dns_messages.specs.declared.query.Query.{Query}
use Rattle.dns_messages.specs.declared.response.DnsResponse.{DnsResponse}
use Rattle.dns_messages.specs.declared.response_code.ResponseCode.{ResponseCode}
use Rattle.dns_messages.specs.declared.response_code.ResponseCode.TheVariants.{NoError, NXDomain, Unknown}
use Rattle.stub_lookup.specs.Error.{no_records}
use Rattle.stub_lookup.specs.declared.error.DnsError.{DnsError}
use Rattle.stub_lookup.specs.declared.error.DnsError.TheVariants as errors
use Rattle.stub_lookup.specs.declared.error.NetError.{NetError}
use Rattle.stub_lookup.specs.declared.error.NetError.TheVariants.{Dns}
use Rattle.stub_lookup.specs.declared.error.NoRecords.{NoRecords}

-- the records of a section, if there are any
abbrev pub any_records : List Record → Option (List Record)
any_records [] = None
any_records (r ∷ rs) = Some (r ∷ rs)

-- a record with data of the type SOA
abbrev pub with_soa_data : Record → RData → Option (generic.Record SOA)
with_soa_data r (of.SOA soa) = Some (record { name = r.name; dns_class = r.dns_class; ttl = r.ttl; rdata = soa })
with_soa_data r other = None

-- a record with data of the type SOA, if there is one
abbrev pub as_soa : Option Record → Option (generic.Record SOA)
as_soa None = None
as_soa (Some r) = with_soa_data r r.rdata

-- the first question, or that for the addresses of the root
abbrev pub first_question : List Query → Query
first_question [] = record { name = record { is_fqdn = true; labels = [] }; query_type = A; query_class = IN }
first_question (q ∷ qs) = q

-- the negative answer of a response (RFC 2308 section 5)
abbrev pub no_records_in : Message → NoRecords
no_records_in m = record (no_records (first_question m.queries) m.metadata.response_code) {
  soa = as_soa (soa_in m.authorities);
  negative_ttl = negative_ttl (soa_in m.authorities);
  authorities = any_records m.authorities;
}

-- there is no answer, nor was one cut off (RFC 2181 section 9)
abbrev pub error_without_answer : Message → Option DnsError
error_without_answer m =
    if contains_answer m || m.metadata.truncation then None else Some (errors.NoRecordsFound (no_records_in m))

-- an error by the response code; an unknown code is not one
abbrev pub error_by_code : ResponseCode → Message → Option DnsError
error_by_code NoError m = error_without_answer m
error_by_code NXDomain m = error_without_answer m
error_by_code (Unknown number) m = None
error_by_code code m = Some (errors.ResponseCode code)

-- the error that a response means, if it is one
abbrev pub error_in : Message → Option DnsError
error_in m = error_by_code m.metadata.response_code m

-- a response, unless there is an error
abbrev pub unless_error : DnsResponse → Option DnsError → Result DnsResponse NetError
unless_error response None = Ok response
unless_error response (Some error) = Err (Dns error)

-- a response that is not an error, or the error
abbrev pub outcome : DnsResponse → Result DnsResponse NetError
outcome response = unless_error response (error_in response.message)

-- whether the response is a negative answer
abbrev pub is_negative : Option DnsError → Bool
is_negative (Some (errors.NoRecordsFound answer)) = true
is_negative other = false
