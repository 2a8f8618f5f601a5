-- What a datagram is to a request that waits for its reply (RFC 5452 section 9.1).
use Rattle.std.specs.Prelude.{◌≡◌, ◌==◌, true, false, List, ℕ, Option, Some, None, codes}
use Rattle.dns_wire.specs.declared.error.DecodeError.{DecodeError}
use Rattle.dns_messages.specs.declared.header.Metadata.{Metadata}
use Rattle.dns_messages.specs.declared.message.Message.{Message}
use Rattle.dns_messages.specs.declared.query.Query.{Query}
use Rattle.dns_messages.specs.declared.response.DnsResponse.{DnsResponse}
use Rattle.dns_messages.specs.Grammar.{ReadsMessage, RefusesMessage}
use Rattle.dns_messages.specs.Header.{peeked_metadata}
use Rattle.stub_link.specs.Reply.{has_reply_header, is_reply_code, is_response, repeats}
use Rattle.stub_link.specs.WireHandle.{FindsReply}
use Rattle.stub_link.specs.declared.trace.verdict.Verdict.{Verdict}
use Rattle.stub_link.specs.declared.trace.verdict.Verdict.TheVariants.{Reply, NoHeader, Request, OtherOpCode, OtherId, Malformed, OtherQuestion}

-- the first thing in a header that is not as in the reply to a request (RFC 1035 section 4.1.1)
abbrev pub HasFault : ℕ → Option Query → Metadata → Verdict → Type 0
HasFault id question header Request = is_response header.message_type ≡ false
HasFault id question header OtherOpCode =
    (is_response header.message_type ≡ true) × (is_reply_code question header.op_code ≡ false)
HasFault id question header OtherId =
    (is_response header.message_type ≡ true) × (is_reply_code question header.op_code ≡ true) × ((header.id == id) ≡ false)
HasFault id question header verdict = ⊥

-- whether bytes with the header of a reply decode
abbrev pub IsFaultOfContent : List ℕ → Verdict → Type 0
IsFaultOfContent bytes Malformed = (error : DecodeError) × RefusesMessage bytes error
IsFaultOfContent bytes OtherQuestion = (m : Message) × ReadsMessage bytes m
IsFaultOfContent bytes verdict = ⊥

-- the bytes begin with a header that has this fault
abbrev pub BeginsWithFault : ℕ → Option Query → List ℕ → Verdict → Type 0
BeginsWithFault id question bytes fault =
    (header : Metadata) × (peeked_metadata bytes ≡ Some header) × HasFault id question header fault

-- What a datagram is to a request: its reply; or without a header; or with the header of another message; or malformed after
-- the header of a reply; or a response to another question.
abbrev pub IsVerdict : ℕ → Option Query → List ℕ → Verdict → Type 0
IsVerdict id question bytes Reply = (response : DnsResponse) × FindsReply id question bytes (Some response)
IsVerdict id question bytes NoHeader = peeked_metadata bytes ≡ None
IsVerdict id question bytes Malformed =
    (has_reply_header id question (peeked_metadata bytes) ≡ true) × IsFaultOfContent bytes Malformed
IsVerdict id question bytes OtherQuestion =
    (has_reply_header id question (peeked_metadata bytes) ≡ true)
    × ((m : Message) × ReadsMessage bytes m × (repeats question m.queries ≡ false))
IsVerdict id question bytes fault = BeginsWithFault id question bytes fault

-- how a trace shows it
abbrev pub verdict_text : Verdict → List ℕ
verdict_text Reply = codes "the reply"
verdict_text NoHeader = codes "dropped: shorter than a header"
verdict_text Request = codes "dropped: a request"
verdict_text OtherOpCode = codes "dropped: another opcode"
verdict_text OtherId = codes "dropped: another id"
verdict_text Malformed = codes "dropped: malformed"
verdict_text OtherQuestion = codes "dropped: another question"
