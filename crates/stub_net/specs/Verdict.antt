-- Which outcomes of a try end an exchange.
use Rattle.std.specs.Prelude.{◌==◌, ◌&&◌, ◌||◌, Bool, true, false, not, if◌then◌else◌, length, ℕ, is_none, Ok, Err}
use Rattle.dns_messages.specs.declared.message.Message.{Message}
use Rattle.dns_messages.specs.declared.response_code.ResponseCode.{ResponseCode}
use Rattle.dns_messages.specs.declared.response_code.ResponseCode.TheVariants.{NXDomain, NoError, NotImp, Refused, ServFail}
use Rattle.stub_client.specs.Handle.{Outcome}
use Rattle.stub_lookup.specs.declared.error.NetError.TheVariants as net
use Rattle.stub_link.specs.Reply.{question_in}
use Rattle.stub_net.specs.declared.pool.verdict.Verdict.{Verdict}
use Rattle.stub_net.specs.declared.pool.verdict.Verdict.TheVariants.{Accepted, Declined, OutOfMemory}

-- whether a response code says that the server does not answer the request (RFC 1035 section 4.1.1)
abbrev pub declines_by_code : ResponseCode → Bool
declines_by_code ServFail = true
declines_by_code NotImp = true
declines_by_code Refused = true
declines_by_code code = false

-- whether a reply with this code and so many answers is negative (RFC 2308 section 2)
abbrev pub is_negative_code : ResponseCode → ℕ → Bool
is_negative_code NXDomain answers = true
is_negative_code NoError answers = answers == 0
is_negative_code code answers = false

-- whether a reply is negative: the name does not exist, or has no records of the type
abbrev pub is_negative : Message → Bool
is_negative m = is_negative_code m.metadata.response_code (length m.answers)

-- whether a reply is accepted of a server that is trusted with negative responses, or is not; updates have none
abbrev pub accepts : Message → Bool → Message → Bool
accepts request trusted reply =
    not (declines_by_code reply.metadata.response_code)
    && ((trusted || is_none (question_in request)) || not (is_negative reply))

-- What becomes of the outcome of a try: a reply that is accepted ends the exchange, and so does want of memory.
abbrev pub verdict_on : Message → Bool → Outcome → Verdict
verdict_on request trusted (Ok response) = if accepts request trusted response.message then Accepted else Declined
verdict_on request trusted (Err net.Memory) = OutOfMemory
verdict_on request trusted (Err error) = Declined
