-- An exchange goes on.
use Rattle.std.proofs.Common.{◌≡◌, ◌+◌, ◌-◌, ◌<◌, ◌≤◌, List, [], ◌∷◌, ◌++◌, ℕ, suc, Some, None, length, get_or, drop, sym, ap, subst, arith, add-one, drop-cons}
use Rattle.std.specs.declared.ops.ControlFlow.TheVariants.{Break, Continue}
use Rattle.dns_messages.specs.declared.message.Message.{Message}
use Rattle.stub_client.specs.Handle.{Outcome}
use Rattle.stub_servers.specs.ServerList.{with_failure}
use Rattle.stub_servers.specs.Servers.{Servers}
use Rattle.stub_servers.specs.declared.server.Server.{Server}
use Rattle.stub_net.specs.Exchange.{Runs, TriesPlace, next_is_tried, rounds, server_accepted, server_at, server_declined, try_ends}
use Rattle.stub_net.specs.Network.{NetworkCalls}
use Rattle.stub_net.specs.Try.{Tries, over_network}
use Rattle.stub_net.specs.Verdict.{verdict_on}
use Rattle.stub_net.specs.declared.pool.NameServerPool.{NameServerPool}
use Rattle.stub_net.specs.declared.pool.verdict.Verdict.{Verdict}
use Rattle.stub_net.specs.declared.pool.verdict.Verdict.TheVariants.{Accepted, Declined}
use Rattle.stub_net.specs.declared.requester.Requester.{Requester}

-- ---- one place

-- a server was tried, and its outcome is this
pub record WasTried {N I : Type 0} (calls : NetworkCalls N) (m : Message) (bytes : List ℕ) (place : ℕ) (old : NameServerPool N I)
    (tried : Outcome) (requester : Requester N) (is : Verdict) : Type 0 where
  pub tries : Tries calls m bytes (server_at old.servers place) old.requester tried requester
  pub verdict : verdict_on m (server_at old.servers place).trust_negative_responses tried ≡ is

pub was-tried : {N I : Type 0} (calls : NetworkCalls N) (m : Message) (bytes : List ℕ) (place : ℕ) (old : NameServerPool N I) (tried : Outcome) (requester : Requester N) (is : Verdict) (server : Server) → server ≡ server_at old.servers place
    → Tries calls m bytes server old.requester tried requester → is ≡ verdict_on m server.trust_negative_responses tried → WasTried calls m bytes place old tried requester is
was-tried {N} calls m bytes place old tried requester is server e t v = record {
  tries = subst (λ (s : Server). Tries calls m bytes s old.requester tried requester) e t;
  verdict = subst (λ (s : Server). verdict_on m s.trust_negative_responses tried ≡ is) e (sym v);
}

pub place-accepted : {N I : Type 0} (calls : NetworkCalls N) (m : Message) (bytes : List ℕ) (place : ℕ) (old : NameServerPool N I) (tried : Outcome) (requester : Requester N) (servers : Servers)
    → WasTried calls m bytes place old tried requester Accepted → servers ≡ with_failure place None old.servers → TriesPlace calls m bytes place old (Break tried) (record old { requester = requester; servers = servers })
place-accepted calls m bytes place old tried requester servers t e =
    subst (λ (s : Servers). TriesPlace calls m bytes place old (Break tried) (record old { requester = requester; servers = s })) (sym e) (server_accepted tried requester t.tries t.verdict)

pub place-declined : {N I : Type 0} (calls : NetworkCalls N) (m : Message) (bytes : List ℕ) (place : ℕ) (old : NameServerPool N I) (tried : Outcome) (requester : Requester N) (now : ℕ) (network : N) (servers : Servers)
    → WasTried calls m bytes place old tried requester Declined → calls.reads_clock requester.network now network → servers ≡ with_failure place (Some now) old.servers
    → TriesPlace calls m bytes place old (Continue tried) (record old { requester = over_network network requester; servers = servers })
place-declined calls m bytes place old tried requester now network servers t r e =
    subst (λ (s : Servers). TriesPlace calls m bytes place old (Continue tried) (record old { requester = over_network network requester; servers = s })) (sym e) (server_declined tried requester now network t.tries t.verdict r)

-- ---- the places of an order

-- what the rest of a plan leads to, all of it leads to
abbrev pub RunsOn : {N I : Type 0} → NetworkCalls N → Message → List ℕ → List ℕ → Outcome → NameServerPool N I → List ℕ → Outcome → NameServerPool N I → Type 0
RunsOn {N} {I} calls m bytes rest last mid plan before old =
    (outcome : Outcome) (new : NameServerPool N I) → Runs calls m bytes rest last mid outcome new → Runs calls m bytes plan before old outcome new

-- the place at an index is the next one
next-place : (order : List ℕ) (i : ℕ) → i < length order → get_or order i 0 ∷ drop (i + 1) order ≡ drop i order
next-place order i h = let e : drop i order ≡ get_or order i 0 ∷ drop (i + 1) order = rw add-one (drop-cons order i 0 h) in sym e

pub ends-at : {N I : Type 0} (calls : NetworkCalls N) (m : Message) (bytes : List ℕ) (order : List ℕ) (i : ℕ) (rest : List ℕ) (last : Outcome) (mid : NameServerPool N I) (outcome : Outcome) (new : NameServerPool N I) → i < length order
    → TriesPlace calls m bytes (get_or order i 0) mid (Break outcome) new → Runs calls m bytes (drop i order ++ rest) last mid outcome new
ends-at calls m bytes order i rest last mid outcome new h t =
    subst (λ (xs : List ℕ). Runs calls m bytes (xs ++ rest) last mid outcome new) (next-place order i h) (try_ends (get_or order i 0) (drop (i + 1) order ++ rest) last mid outcome new t)

pub goes-on-at : {N I : Type 0} (calls : NetworkCalls N) (m : Message) (bytes : List ℕ) (order : List ℕ) (i : ℕ) (rest : List ℕ) (last : Outcome) (mid : NameServerPool N I) (tried : Outcome) (after : NameServerPool N I) (outcome : Outcome) (new : NameServerPool N I) → i < length order
    → TriesPlace calls m bytes (get_or order i 0) mid (Continue tried) after → Runs calls m bytes (drop (i + 1) order ++ rest) tried after outcome new → Runs calls m bytes (drop i order ++ rest) last mid outcome new
goes-on-at calls m bytes order i rest last mid tried after outcome new h t r =
    subst (λ (xs : List ℕ). Runs calls m bytes (xs ++ rest) last mid outcome new) (next-place order i h) (next_is_tried (get_or order i 0) (drop (i + 1) order ++ rest) last mid tried after outcome new t r)

-- ---- rounds

-- a round is next
pub round-begins : (n i : ℕ) (order : List ℕ) → i < n → order ++ rounds (n - (i + 1)) order ≡ rounds (n - i) order
round-begins n i order h = let e : suc (n - (i + 1)) ≡ n - i = omega arith in ap (λ k. rounds k order) e

-- no round is left
pub rounds-over : (n i : ℕ) (order : List ℕ) → n ≤ i → [] ≡ rounds (n - i) order
rounds-over n i order h = let e : 0 ≡ n - i = omega arith in ap (λ k. rounds k order) e
