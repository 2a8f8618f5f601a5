-- The wait for the reply to a datagram (RFC 5452 section 9.1): whatever else arrives is dropped, and the time-out stays.
use Rattle.std.specs.Prelude.{◌≡◌, ◌<◌, ◌-◌, List, ℕ, Some, None, Ok, Err}
use Rattle.dns_messages.specs.declared.message.Message.{Message}
use Rattle.dns_messages.specs.declared.response.DnsResponse.{DnsResponse}
use Rattle.stub_client.specs.Handle.{Outcome}
use Rattle.stub_link.specs.Wait.{one_more}
use Rattle.stub_link.specs.declared.link.LinkError.TheVariants.{Failed, Memory}
use Rattle.stub_lookup.specs.declared.error.LinkFault.TheVariants as fault
use Rattle.stub_lookup.specs.declared.error.NetError.TheVariants as net
use Rattle.stub_net.specs.Network.{NetworkCalls}
use Rattle.stub_net.specs.Request.{Finds, IsHeaded}

-- Awaits calls m deadline left old dropped outcome new total: the reply to a request is awaited until a deadline, for at most
-- `left` datagrams. The network goes from `old` to `new`, and the count of datagrams that were dropped rises from `dropped` to
-- `total`.
pub data Awaits {N : Type 0} (calls : NetworkCalls N) (m : Message) (deadline : ℕ) : ℕ → N → ℕ → Outcome → N → ℕ → Type 0 where
  reply_arrives : (left : ℕ) (old : N) (dropped : ℕ) (bytes : List ℕ) (response : DnsResponse) (new : N) → 0 < left
      → calls.receives old deadline (Ok (Some bytes)) new → Finds m bytes (Some response)
      → Awaits calls m deadline left old dropped (Ok response) new dropped
  other_arrives : (left : ℕ) (old : N) (dropped : ℕ) (bytes : List ℕ) (mid : N) (outcome : Outcome) (new : N) (total : ℕ) → 0 < left
      → calls.receives old deadline (Ok (Some bytes)) mid → Finds m bytes None
      → Awaits calls m deadline (left - 1) mid (one_more dropped) outcome new total
      → Awaits calls m deadline left old dropped outcome new total
  no_memory_to_decode : (left : ℕ) (old : N) (dropped : ℕ) (bytes : List ℕ) (new : N) → 0 < left
      → calls.receives old deadline (Ok (Some bytes)) new → IsHeaded m bytes
      → Awaits calls m deadline left old dropped (Err net.Memory) new dropped
  deadline_passes : (left : ℕ) (old : N) (dropped : ℕ) (new : N) → 0 < left → calls.receives old deadline (Ok None) new
      → Awaits calls m deadline left old dropped (Err (net.Link fault.Quiet)) new dropped
  receive_fails : (left : ℕ) (old : N) (dropped : ℕ) (new : N) → 0 < left → calls.receives old deadline (Err Failed) new
      → Awaits calls m deadline left old dropped (Err (net.Link fault.NotReceived)) new dropped
  no_memory_to_receive : (left : ℕ) (old : N) (dropped : ℕ) (new : N) → 0 < left → calls.receives old deadline (Err Memory) new
      → Awaits calls m deadline left old dropped (Err net.Memory) new dropped
  none_left : (left : ℕ) (old : N) (dropped : ℕ) → left ≡ 0
      → Awaits calls m deadline left old dropped (Err (net.Link fault.NoMatch)) old dropped
