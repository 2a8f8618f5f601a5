-- What a lookup found, and why it found nothing.
use Rattle.std.specs.Prelude.{◌≡◌, ◌⊎◌, List, ℕ, Result, Ok, Err}
use Rattle.api.specs.declared.lookups.refusal.LookupRefusal.{LookupRefusal}
use Rattle.api.specs.declared.lookups.refusal.LookupRefusal.TheVariants as refusal
use Rattle.api_resolver.specs.declared.lookup.LookupState.{LookupState}
use Rattle.api_resolver.specs.declared.lookup.LookupState.TheVariants.{Ended, Waits}
use Rattle.dns_messages.specs.Printed.{record_lines}
use Rattle.dns_messages.specs.declared.response_code.ResponseCode.{ResponseCode}
use Rattle.dns_messages.specs.declared.response_code.ResponseCode.TheVariants.{NXDomain}
use Rattle.stub_lookup.specs.declared.error.DnsError.{DnsError}
use Rattle.stub_lookup.specs.declared.error.DnsError.TheVariants as dns
use Rattle.stub_lookup.specs.declared.error.LinkFault.{LinkFault}
use Rattle.stub_lookup.specs.declared.error.LinkFault.TheVariants as fault
use Rattle.stub_lookup.specs.declared.error.NetError.{NetError}
use Rattle.stub_lookup.specs.declared.error.NetError.TheVariants as net

-- why a negative answer has no records
abbrev pub negative_failure : ResponseCode → LookupRefusal
negative_failure NXDomain = refusal.NoName
negative_failure other = refusal.NoRecords

-- why a server's reply is an error
abbrev pub reply_failure : DnsError → LookupRefusal
reply_failure (dns.NoRecordsFound answer) = negative_failure answer.response_code
reply_failure (dns.ResponseCode code) = refusal.ServerError

-- why there is no reply
abbrev pub link_failure : LinkFault → LookupRefusal
link_failure fault.NoId = refusal.NoId
link_failure other = refusal.NoReply

-- why a lookup found nothing
abbrev pub failure_of : NetError → LookupRefusal
failure_of (net.Dns error) = reply_failure error
failure_of (net.Link error) = link_failure error
failure_of net.Memory = refusal.Memory
failure_of other = refusal.Unsupported

-- what was found, as something else
abbrev pub found_as : {V W : Type 0} → (V → W) → Result V LookupRefusal → Result W LookupRefusal
found_as f (Ok found) = Ok (f found)
found_as f (Err refused) = Err refused

-- What a lookup has come to: records, each on a line, for which there may be no memory, or a reason.
abbrev pub IsAnswer : LookupState → Result (List ℕ) LookupRefusal → Type 0
IsAnswer (Waits exchange) result = result ≡ Err refusal.Waiting
IsAnswer (Ended (Err error)) result = result ≡ Err (failure_of error)
IsAnswer (Ended (Ok lookup)) result =
    (result ≡ Ok (record_lines lookup.message.answers)) ⊎ (result ≡ Err refusal.Memory)
