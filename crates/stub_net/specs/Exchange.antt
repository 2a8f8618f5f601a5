-- An exchange: the servers are tried in their order, in as many rounds as are configured (RFC 1035 section 7.2).
use Rattle.std.specs.Prelude.{◌≡◌, zero, suc, List, [], ◌∷◌, ◌++◌, ℕ, Some, None, Err, slice_get, unwrap_or}
use Rattle.std.specs.declared.ops.ControlFlow.{ControlFlow}
use Rattle.std.specs.declared.ops.ControlFlow.TheVariants.{Break, Continue}
use Rattle.dns_messages.specs.declared.message.Message.{Message}
use Rattle.stub_client.specs.Handle.{Outcome}
use Rattle.stub_link.specs.Link.{Encodes}
use Rattle.stub_lookup.specs.declared.error.LinkFault.TheVariants as fault
use Rattle.stub_lookup.specs.declared.error.NetError.TheVariants as net
use Rattle.stub_servers.specs.Server.{no_server}
use Rattle.stub_servers.specs.ServerList.{next_turn, order_at, with_failure}
use Rattle.stub_servers.specs.Servers.{Servers}
use Rattle.stub_servers.specs.declared.server.Server.{Server}
use Rattle.stub_net.specs.Network.{NetworkCalls}
use Rattle.stub_net.specs.Try.{Tries, over_network}
use Rattle.stub_net.specs.Verdict.{verdict_on}
use Rattle.stub_net.specs.declared.pool.NameServerPool.{NameServerPool}
use Rattle.stub_net.specs.declared.pool.verdict.Verdict.TheVariants.{Accepted, Declined, OutOfMemory}
use Rattle.stub_net.specs.declared.requester.Requester.{Requester}

-- the server at a place of a list
abbrev pub server_at : Servers → ℕ → Server
server_at list place = unwrap_or (slice_get list.servers place) no_server

-- a pool after its requester did something
abbrev pub after_request : {N I : Type 0} → Requester N → NameServerPool N I → NameServerPool N I
after_request requester pool = record pool { requester = requester }

-- TriesPlace calls m bytes place old ends new: the server at a place is tried. Its outcome ends the exchange, or the next server is
-- tried. A server that is accepted has not failed, and one that declines has.
pub data TriesPlace {N I : Type 0} (calls : NetworkCalls N) (m : Message) (bytes : List ℕ) (place : ℕ) (old : NameServerPool N I)
    : ControlFlow Outcome Outcome → NameServerPool N I → Type 0 where
  server_accepted : (tried : Outcome) (requester : Requester N)
      → Tries calls m bytes (server_at old.servers place) old.requester tried requester
      → verdict_on m (server_at old.servers place).trust_negative_responses tried ≡ Accepted
      → TriesPlace calls m bytes place old (Break tried)
      (record old { requester = requester; servers = with_failure place None old.servers })
  server_declined : (tried : Outcome) (requester : Requester N) (now : ℕ) (network : N)
      → Tries calls m bytes (server_at old.servers place) old.requester tried requester
      → verdict_on m (server_at old.servers place).trust_negative_responses tried ≡ Declined
      → calls.reads_clock requester.network now network
      → TriesPlace calls m bytes place old (Continue tried)
      (record old { requester = over_network network requester; servers = with_failure place (Some now) old.servers })
  memory_is_out : (tried : Outcome) (requester : Requester N)
      → Tries calls m bytes (server_at old.servers place) old.requester tried requester
      → verdict_on m (server_at old.servers place).trust_negative_responses tried ≡ OutOfMemory
      → TriesPlace calls m bytes place old (Break tried) (after_request requester old)

-- Runs calls m bytes plan last old outcome new: the servers at the places of a plan are tried, one after another, until one of them
-- ends the exchange. If none does, the outcome is that of the last try, or the one from before.
pub data Runs {N I : Type 0} (calls : NetworkCalls N) (m : Message) (bytes : List ℕ)
    : List ℕ → Outcome → NameServerPool N I → Outcome → NameServerPool N I → Type 0 where
  all_tried : (last : Outcome) (old : NameServerPool N I) → Runs calls m bytes [] last old last old
  try_ends : (place : ℕ) (plan : List ℕ) (last : Outcome) (old : NameServerPool N I) (outcome : Outcome)
      (new : NameServerPool N I) → TriesPlace calls m bytes place old (Break outcome) new
      → Runs calls m bytes (place ∷ plan) last old outcome new
  next_is_tried : (place : ℕ) (plan : List ℕ) (last : Outcome) (old : NameServerPool N I) (tried : Outcome)
      (mid : NameServerPool N I) (outcome : Outcome) (new : NameServerPool N I)
      → TriesPlace calls m bytes place old (Continue tried) mid → Runs calls m bytes plan tried mid outcome new
      → Runs calls m bytes (place ∷ plan) last old outcome new

-- What a prefix of a plan comes to: it ends the exchange, whatever the rest of the plan is, or the rest goes on from there.
abbrev pub RunsRound : {N I : Type 0} → NetworkCalls N → Message → List ℕ → List ℕ → Outcome → NameServerPool N I
    → ControlFlow Outcome Outcome → NameServerPool N I → Type 0
RunsRound calls m bytes front last old (Break outcome) new =
    (rest : List ℕ) → Runs calls m bytes (front ++ rest) last old outcome new
RunsRound {N} {I} calls m bytes front last old (Continue tried) mid =
    (rest : List ℕ) (outcome : Outcome) (new : NameServerPool N I) → Runs calls m bytes rest tried mid outcome new
    → Runs calls m bytes (front ++ rest) last old outcome new

-- an order, so many times
abbrev pub rounds : ℕ → List ℕ → List ℕ
rounds zero order = []
rounds (suc n) order = order ++ rounds n order

-- the outcome where there is no server to try: F1
abbrev pub no_try : Outcome
no_try = Err (net.Link fault.NotSent)

-- the clock was read as the exchange began
abbrev pub from_start : {N I : Type 0} → N → NameServerPool N I → NameServerPool N I
from_start network pool = record pool { requester = over_network network pool.requester }

-- An exchange: the request is encoded, the order of the servers is that of the moment at which it begins, and the plan is this order
-- as many times as there are attempts. There may be no memory for the datagram, and none for the order.
pub data Exchanges {N I : Type 0} (calls : NetworkCalls N) (m : Message) (old : NameServerPool N I)
    : Outcome → NameServerPool N I → Type 0 where
  no_memory_for_datagram : Exchanges calls m old (Err net.Memory) old
  no_memory_for_order : (start : ℕ) (network : N) → calls.reads_clock old.requester.network start network
      → Exchanges calls m old (Err net.Memory) (from_start network old)
  plan_runs : (bytes : List ℕ) (start : ℕ) (network : N) (outcome : Outcome) (new : NameServerPool N I) → Encodes m bytes
      → calls.reads_clock old.requester.network start network
      → Runs calls m bytes (rounds old.attempts (order_at start old.servers)) no_try
      (record (from_start network old) { servers = next_turn old.servers }) outcome new
      → Exchanges calls m old outcome new
