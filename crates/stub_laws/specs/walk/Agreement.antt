-- When two replies agree: TTLs aside, they have the same records, or fail in the same way.
use Rattle.std.specs.Prelude.{◌≡◌, ◌⊎◌, List, ℕ, Ok, Err}
use Rattle.dns_names.specs.declared.error.ParseError.{ParseError}
use Rattle.dns_records.specs.Record.{Record}
use Rattle.dns_messages.specs.declared.response_code.ResponseCode.{ResponseCode}
use Rattle.stub_lookup.specs.declared.error.DnsError.TheVariants as dns
use Rattle.stub_lookup.specs.declared.error.NetError.{NetError}
use Rattle.stub_lookup.specs.declared.error.NetError.TheVariants as errors
use Rattle.stub_client.specs.Conclusions.{values}
use Rattle.stub_client.specs.Looks.{Reply}

-- why a lookup fails: a negative answer, a response code, a text, a text that is no name, or anything else
pub data Failure : Type 0 where
  Negative : (code : ResponseCode) → Failure
  ByCode : (code : ResponseCode) → Failure
  WithText : (text : List ℕ) → Failure
  NoName : (error : ParseError) → Failure
  OtherError : Failure

-- the value of a reply, TTLs aside: records without them and with owners in lower case, a failure, or want of memory
pub data Value : Type 0 where
  Found : (records : List Record) → Value
  Failed : (failure : Failure) → Value
  OutOfMemory : Value

-- the failure that an error is
abbrev pub failure_of : NetError → Failure
failure_of (errors.Dns (dns.NoRecordsFound answer)) = Negative answer.response_code
failure_of (errors.Dns (dns.ResponseCode code)) = ByCode code
failure_of (errors.Message text) = WithText text.now
failure_of (errors.Proto error) = NoName error
failure_of error = OtherError

-- a reply without its TTLs
abbrev pub reply_value : Reply → Value
reply_value (Ok lookup) = Found (values lookup.message.answers)
reply_value (Err errors.Memory) = OutOfMemory
reply_value (Err error) = Failed (failure_of error)

-- two replies have the same value, unless memory ran out for one of them
abbrev pub Agree : Reply → Reply → Type 0
Agree one other =
    (reply_value one ≡ OutOfMemory) ⊎ ((reply_value other ≡ OutOfMemory) ⊎ (reply_value one ≡ reply_value other))
