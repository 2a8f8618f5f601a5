-- Waiting for a reply (RFC 5452 section 9.1): at most sixteen datagrams are received. One definition for every link, and for the
-- scripted link without bytes.
use Rattle.std.specs.Prelude.{◌≡◌, ◌+◌, ◌^◌, ◌-◌, ◌⊎◌, min, zero, suc, true, false, ℕ, Option, Some, None, Result, Ok, Err}
use Rattle.dns_messages.specs.declared.query.Query.{Query}
use Rattle.dns_messages.specs.declared.message.Message.{Message}
use Rattle.dns_messages.specs.declared.response.DnsResponse.{DnsResponse}
use Rattle.stub_lookup.specs.declared.error.LinkFault.TheVariants as fault
use Rattle.stub_lookup.specs.declared.error.NetError.TheVariants as net
use Rattle.stub_client.specs.Handle.{Outcome}
use Rattle.stub_link.specs.declared.link.LinkError.{LinkError}
use Rattle.stub_link.specs.declared.link.LinkError.TheVariants.{Failed, Memory}
use Rattle.stub_link.specs.Link.{Calls, Carrier}
use Rattle.stub_link.specs.Reply.{has_reply_header, matches}

-- a count that rises by one, up to 2^64 - 1
abbrev pub one_more : ℕ → ℕ
one_more count = min (count + 1) (2 ^ 64 - 1)

-- the datagram is the reply, which ends the waiting
pub record IsReply {L D : Type 0} (carrier : Carrier D) (id : ℕ) (question : Option Query) (datagram : D) (mid : L)
    (dropped : ℕ) (outcome : Outcome) (new : L) (total : ℕ) : Type 0 where
  pub response : DnsResponse
  pub decodes : carrier.responds datagram response
  pub matching : matches id question response.message ≡ true
  pub outcome_is : outcome ≡ Ok response
  pub same : new ≡ mid
  pub count : total ≡ dropped

-- the datagram does not decode to the reply
abbrev pub IsOther : {D : Type 0} → Carrier D → ℕ → Option Query → D → Type 0
IsOther carrier id question datagram = (m : Message) → carrier.decodes datagram m → matches id question m ≡ false

-- the datagram has the header of a reply, and there is no memory to decode it
pub record IsUndecoded {L D : Type 0} (carrier : Carrier D) (id : ℕ) (question : Option Query) (datagram : D) (mid : L)
    (dropped : ℕ) (outcome : Outcome) (new : L) (total : ℕ) : Type 0 where
  pub headed : has_reply_header id question (carrier.header datagram) ≡ true
  pub outcome_is : outcome ≡ Err net.Memory
  pub same : new ≡ mid
  pub count : total ≡ dropped

-- A datagram was received: it is the reply; or it is another, is dropped and counted, and the waiting goes on; or there is no
-- memory for it.
abbrev pub WaitAfterDatagram : {L D : Type 0} → Carrier D → ℕ → Option Query → D → L → ℕ → (ℕ → Outcome → L → ℕ → Type 0)
    → Outcome → L → ℕ → Type 0
WaitAfterDatagram carrier id question datagram mid dropped next outcome new total =
    IsReply carrier id question datagram mid dropped outcome new total
    ⊎ ((IsOther carrier id question datagram × next (one_more dropped) outcome new total)
    ⊎ IsUndecoded carrier id question datagram mid dropped outcome new total)

-- what a receive leads to
abbrev pub WaitAfter : {L D : Type 0} → Carrier D → ℕ → Option Query → Result (Option D) LinkError → L → ℕ
    → (ℕ → Outcome → L → ℕ → Type 0) → Outcome → L → ℕ → Type 0
WaitAfter carrier id question (Ok (Some datagram)) mid dropped next outcome new total =
    WaitAfterDatagram carrier id question datagram mid dropped next outcome new total
WaitAfter carrier id question (Ok None) mid dropped next outcome new total =
    (outcome ≡ Err (net.Link fault.Quiet)) × (new ≡ mid) × (total ≡ dropped)
WaitAfter carrier id question (Err Failed) mid dropped next outcome new total =
    (outcome ≡ Err (net.Link fault.NotReceived)) × (new ≡ mid) × (total ≡ dropped)
WaitAfter carrier id question (Err Memory) mid dropped next outcome new total =
    (outcome ≡ Err net.Memory) × (new ≡ mid) × (total ≡ dropped)

-- Wait carrier calls left id question old dropped outcome new total: the reply to a request is awaited, for at most `left`
-- datagrams. The link goes from `old` to `new`, and the count of datagrams that were dropped rises from `dropped` to `total`.
unfoldable pub Wait : {L D : Type 0} → Carrier D → Calls L D → ℕ → ℕ → Option Query → L → ℕ → Outcome → L → ℕ → Type 0
Wait carrier calls zero id question old dropped outcome new total =
    (outcome ≡ Err (net.Link fault.NoMatch)) × (new ≡ old) × (total ≡ dropped)
Wait {L} {D} carrier calls (suc left) id question old dropped outcome new total =
    (received : Result (Option D) LinkError) × (mid : L) × calls.receives old received mid
    × WaitAfter carrier id question received mid dropped (λ more. Wait carrier calls left id question mid more) outcome new total
