-- Where an exchange ends in a fault.
use Rattle.std.proofs.Common.{List, ℕ, Err, refl}
use Rattle.std.specs.declared.ops.ControlFlow.TheVariants.{Break}
use Rattle.dns_messages.specs.declared.message.Message.{Message}
use Rattle.stub_lookup.specs.declared.error.LinkFault.{LinkFault}
use Rattle.stub_lookup.specs.declared.error.NetError.TheVariants as net
use Rattle.stub_client.specs.Handle.{Outcome}
use Rattle.stub_net.specs.Exchange.{Exchanges, Runs, TriesPlace, all_tried, memory_is_out, next_is_tried, plan_runs, server_accepted, try_ends}
use Rattle.stub_net.specs.Laws.{AllDecline, IsDeclinedByAll}
use Rattle.stub_net.specs.Network.{NetworkCalls}
use Rattle.stub_net.specs.declared.pool.NameServerPool.{NameServerPool}

-- no fault ends an exchange
no-fault-ends : {N I : Type 0} (calls : NetworkCalls N) (m : Message) (bytes : List ℕ) (place : ℕ) (old : NameServerPool N I) (fault : LinkFault) (new : NameServerPool N I) → TriesPlace calls m bytes place old (Break (Err (net.Link fault))) new → ⊥
no-fault-ends calls m bytes place old fault new (server_accepted tried requester t v) = cc
no-fault-ends calls m bytes place old fault new (memory_is_out tried requester t v) = cc

-- where the outcome is a fault, each try declined
all-decline : {N I : Type 0} (calls : NetworkCalls N) (m : Message) (bytes : List ℕ) (plan : List ℕ) (last : Outcome) (old : NameServerPool N I) (fault : LinkFault) (new : NameServerPool N I)
    → Runs calls m bytes plan last old (Err (net.Link fault)) new → AllDecline calls m bytes plan old new
all-decline calls m bytes plan last old fault new (all_tried last' old') = refl
all-decline calls m bytes plan last old fault new (try_ends place rest last' old' outcome' new' t) = absurd (no-fault-ends calls m bytes place old fault new t)
all-decline calls m bytes plan last old fault new (next_is_tried place rest last' old' tried mid outcome' new' t r) =
    (tried, mid, t, all-decline calls m bytes rest tried mid fault new r)

pub declined-by-all : {N I : Type 0} (calls : NetworkCalls N) (m : Message) (old new : NameServerPool N I) (fault : LinkFault) → Exchanges calls m old (Err (net.Link fault)) new → IsDeclinedByAll calls m old new
declined-by-all calls m old new fault (plan_runs bytes start network outcome' new' encodes reads runs) = record {
  bytes = bytes;
  start = start;
  network = network;
  encodes = encodes;
  reads = reads;
  declines = all-decline calls m bytes _ _ _ fault new runs;
}
