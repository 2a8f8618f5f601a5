-- What holds of every exchange.
use Rattle.std.specs.Prelude.{◌≡◌, ◌+◌, ◌≤◌, true, false, List, [], ◌∷◌, ℕ, Option, Some, None, Result, Ok, Err}
use Rattle.std.specs.declared.net.socket_addr.SocketAddr.{SocketAddr}
use Rattle.std.specs.declared.ops.ControlFlow.TheVariants.{Continue}
use Rattle.dns_messages.specs.declared.message.Message.{Message}
use Rattle.dns_messages.specs.declared.query.Query.{Query}
use Rattle.dns_messages.specs.declared.response.DnsResponse.{DnsResponse}
use Rattle.stub_client.specs.Handle.{Outcome}
use Rattle.stub_link.specs.Link.{Encodes}
use Rattle.stub_link.specs.Reply.{matches}
use Rattle.stub_link.specs.Request.{IsQuestion}
use Rattle.stub_link.specs.declared.link.LinkError.{LinkError}
use Rattle.stub_servers.specs.ServerList.{next_turn, order_at}
use Rattle.stub_net.specs.Exchange.{TriesPlace, from_start, rounds}
use Rattle.stub_net.specs.Network.{NetworkCalls}
use Rattle.stub_net.specs.declared.pool.NameServerPool.{NameServerPool}

-- ---- faults

-- the servers at all places of a plan were tried, one after another, and each declined
abbrev pub AllDecline : {N I : Type 0} → NetworkCalls N → Message → List ℕ → List ℕ → NameServerPool N I → NameServerPool N I → Type 0
AllDecline calls m bytes [] old new = new ≡ old
AllDecline {N} {I} calls m bytes (place ∷ plan) old new =
    (tried : Outcome) × (mid : NameServerPool N I) × TriesPlace calls m bytes place old (Continue tried) mid
    × AllDecline calls m bytes plan mid new

-- In each round, each server was tried, and none gave a reply that is accepted.
pub record IsDeclinedByAll {N I : Type 0} (calls : NetworkCalls N) (m : Message) (old new : NameServerPool N I) : Type 0 where
  pub bytes : List ℕ
  pub start : ℕ
  pub network : N
  pub encodes : Encodes m bytes
  pub reads : calls.reads_clock old.requester.network start network
  pub declines : AllDecline calls m bytes (rounds old.attempts (order_at start old.servers))
      (record (from_start network old) { servers = next_turn old.servers }) new

-- ---- bounds

-- A count that each call raises by at most a number: a send, a datagram that is received, a receive that ends without one, and a
-- stream. A reading of the clock does not raise it. With the count of the receives less that of the datagrams that arrived, which a
-- datagram does not raise, the law says that there are no more receives than datagrams that arrived and tries.
pub record IsMeter {N : Type 0} (calls : NetworkCalls N) (count : N → ℕ) (by_send by_datagram by_end by_stream : ℕ) : Type 0 where
  pub sends : (old : N) (server : SocketAddr) (bytes : List ℕ) (result : Result (Unit {0}) LinkError) (new : N)
      → calls.sends old server bytes result new → count new ≤ count old + by_send
  pub arrives : (old : N) (deadline : ℕ) (bytes : List ℕ) (new : N)
      → calls.receives old deadline (Ok (Some bytes)) new → count new ≤ count old + by_datagram
  pub passes : (old : N) (deadline : ℕ) (new : N) → calls.receives old deadline (Ok None) new → count new ≤ count old + by_end
  pub fails : (old : N) (deadline : ℕ) (error : LinkError) (new : N)
      → calls.receives old deadline (Err error) new → count new ≤ count old + by_end
  pub streams : (old : N) (server : SocketAddr) (bytes : List ℕ) (deadline : ℕ) (result : Result (List ℕ) LinkError) (new : N)
      → calls.streams old server bytes deadline result new → count new ≤ count old + by_stream
  pub reads_clock : (old : N) (now : ℕ) (new : N) → calls.reads_clock old now new → count new ≤ count old

-- ---- replies

-- a reply to a question under an id that was drawn: it repeats both, and is not truncated (RFC 5452 section 9.1)
pub record IsReplyToQuestion {I : Type 0} (draws : I → Option ℕ → I → Type 0) (ids : I) (m : Message) (response : DnsResponse)
    : Type 0 where
  pub question : Query
  pub id : ℕ
  pub rest : I
  pub asks : IsQuestion m question
  pub drawn : draws ids (Some id) rest
  pub matching : matches id (Some question) response.message ≡ true
  pub whole : response.message.metadata.truncation ≡ false
