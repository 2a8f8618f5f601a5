-- What an exchange does at most.
use Rattle.std.proofs.Common.{◌≡◌, ◌+◌, ◌-◌, ◌*◌, ◌^◌, ◌<◌, ◌≤◌, Bool, true, false, List, ℕ, zero, suc, Option, Some, None, Result, Ok, Err, length, sym, ap, subst, ◌∙◌, arith, length-append}
use Rattle.std.proofs.Math.Nat.{suc-mul}
use Rattle.std.specs.declared.net.socket_addr.SocketAddr.{SocketAddr}
use Rattle.std.specs.declared.ops.ControlFlow.{ControlFlow}
use Rattle.dns_messages.specs.declared.message.Message.{Message}
use Rattle.stub_client.specs.Handle.{Outcome}
use Rattle.stub_link.specs.declared.link.LinkError.{LinkError}
use Rattle.stub_link.specs.declared.link.LinkError.TheVariants.{Failed, Memory}
use Rattle.stub_servers.specs.ServerList.{order_at}
use Rattle.stub_servers.proofs.PlacesLaws.{order-length}
use Rattle.stub_net.specs.Exchange.{Exchanges, Runs, TriesPlace, all_tried, memory_is_out, next_is_tried, no_memory_for_datagram, no_memory_for_order, plan_runs, rounds, server_accepted, server_declined, try_ends}
use Rattle.stub_net.specs.Laws.{IsMeter}
use Rattle.stub_net.specs.Network.{NetworkCalls}
use Rattle.stub_net.specs.Try.{AfterDatagram, AfterSend, AsksStream, AwaitsReply, ReadsDeadline, TriesAddresses, count_datagram, count_stream}
use Rattle.stub_net.specs.Wait.{Awaits, deadline_passes, no_memory_to_decode, no_memory_to_receive, none_left, other_arrives, receive_fails, reply_arrives}
use Rattle.stub_net.specs.declared.pool.NameServerPool.{NameServerPool}
use Rattle.stub_net.specs.declared.requester.Requester.{Requester}

-- ---- one try

-- a count at the network of a requester that is given by an equation
at-network : {N : Type 0} (count : N → ℕ) (most : ℕ) (new other : Requester N) → new ≡ other → count other.network ≤ most → count new.network ≤ most
at-network {N} count most new other e h = subst (λ (r : Requester N). count r.network ≤ most) (sym e) h

-- one datagram less is left
one-less : (left each : ℕ) → 0 < left → left * each ≡ (left - 1) * each + each
one-less zero each h = absurd (omega arith)
one-less (suc n) each h = let e : suc n - 1 ≡ n = omega arith in suc-mul n each ∙ ap (λ k. k * each + each) (sym e)

awaits-count : {N : Type 0} (calls : NetworkCalls N) (count : N → ℕ) (a d q b : ℕ) (m : Message) (deadline left : ℕ) (old : N) (dropped : ℕ) (outcome : Outcome) (new : N) (total : ℕ) → IsMeter calls count a d q b
    → Awaits calls m deadline left old dropped outcome new total → count new ≤ count old + left * d + q
awaits-count calls count a d q b m deadline left old dropped outcome new total k (reply_arrives l o dr bytes response n h r f) =
    omega (arith, k.arrives _ _ _ _ r, one-less l d h)
awaits-count calls count a d q b m deadline left old dropped outcome new total k (other_arrives l o dr bytes mid out n t h r f more) =
    omega (arith, k.arrives _ _ _ _ r, one-less l d h, awaits-count calls count a d q b m deadline _ mid _ outcome new total k more)
awaits-count calls count a d q b m deadline left old dropped outcome new total k (no_memory_to_decode l o dr bytes n h r f) =
    omega (arith, k.arrives _ _ _ _ r, one-less l d h)
awaits-count calls count a d q b m deadline left old dropped outcome new total k (deadline_passes l o dr n h r) = omega (arith, k.passes _ _ _ r)
awaits-count calls count a d q b m deadline left old dropped outcome new total k (receive_fails l o dr n h r) = omega (arith, k.fails _ _ _ _ r)
awaits-count calls count a d q b m deadline left old dropped outcome new total k (no_memory_to_receive l o dr n h r) = omega (arith, k.fails _ _ _ _ r)
awaits-count calls count a d q b m deadline left old dropped outcome new total k (none_left l o dr z) = omega arith

deadline-count : {N : Type 0} (calls : NetworkCalls N) (count : N → ℕ) (a d q b : ℕ) (old : Requester N) (deadline : ℕ) (new : Requester N) → IsMeter calls count a d q b → ReadsDeadline calls.reads_clock old deadline new → count new.network ≤ count old.network
deadline-count calls count a d q b old deadline new k r =
    at-network count (count old.network) new _ r.new_is (k.reads_clock _ _ _ r.reads)

waits-count : {N : Type 0} (calls : NetworkCalls N) (count : N → ℕ) (a d q b : ℕ) (m : Message) (old : Requester N) (outcome : Outcome) (new : Requester N) → IsMeter calls count a d q b → AwaitsReply calls m old outcome new → count new.network ≤ count old.network + (2 ^ 64 - 1) * d + q
waits-count calls count a d q b m old outcome new k w =
    at-network count (count old.network + (2 ^ 64 - 1) * d + q) new _ w.new_is
    (omega (arith, deadline-count calls count a d q b old w.deadline w.mid k w.reads, awaits-count calls count a d q b m w.deadline _ _ _ outcome _ _ k w.awaits))

sends-count : {N : Type 0} (calls : NetworkCalls N) (count : N → ℕ) (a d q b : ℕ) (m : Message) (result : Result (Unit {0}) LinkError) (mid : Requester N) (outcome : Outcome) (new : Requester N) → IsMeter calls count a d q b
    → AfterSend calls m result mid outcome new → count new.network ≤ count mid.network + (2 ^ 64 - 1) * d + q
sends-count calls count a d q b m (Ok done) mid outcome new k s = waits-count calls count a d q b m (count_datagram mid) outcome new k s
sends-count calls count a d q b m (Err Failed) mid outcome new k s = at-network count (count mid.network + (2 ^ 64 - 1) * d + q) new mid s.1 (omega arith)
sends-count calls count a d q b m (Err Memory) mid outcome new k s = at-network count (count mid.network + (2 ^ 64 - 1) * d + q) new mid s.1 (omega arith)

stream-count : {N : Type 0} (calls : NetworkCalls N) (count : N → ℕ) (a d q b : ℕ) (m : Message) (bytes : List ℕ) (server : SocketAddr) (old : Requester N) (outcome : Outcome) (new : Requester N) → IsMeter calls count a d q b
    → AsksStream calls m bytes server old outcome new → count new.network ≤ count old.network + b
stream-count calls count a d q b m bytes server old outcome new k s =
    at-network count (count old.network + b) new _ s.new_is
    (omega (arith, deadline-count calls count a d q b (count_stream old) s.deadline s.mid k s.reads, k.streams _ _ _ _ _ _ s.streams))

datagram-count : {N : Type 0} (calls : NetworkCalls N) (count : N → ℕ) (a d q b : ℕ) (m : Message) (bytes : List ℕ) (cut : Bool) (tcp : Option SocketAddr) (waited : Outcome) (mid : Requester N) (outcome : Outcome) (new : Requester N) → IsMeter calls count a d q b
    → AfterDatagram calls m bytes cut tcp waited mid outcome new → count new.network ≤ count mid.network + b
datagram-count calls count a d q b m bytes false tcp waited mid outcome new k e = at-network count (count mid.network + b) new mid e.1 (omega arith)
datagram-count calls count a d q b m bytes true (Some tcp) waited mid outcome new k e = stream-count calls count a d q b m bytes tcp mid outcome new k e
datagram-count calls count a d q b m bytes true None waited mid outcome new k e = at-network count (count mid.network + b) new mid e.1 (omega arith)

tries-count : {N : Type 0} (calls : NetworkCalls N) (count : N → ℕ) (a d q b : ℕ) (m : Message) (bytes : List ℕ) (udp tcp : Option SocketAddr) (old : Requester N) (outcome : Outcome) (new : Requester N) → IsMeter calls count a d q b
    → TriesAddresses calls m bytes udp tcp old outcome new → count new.network ≤ count old.network + (a + (2 ^ 64 - 1) * d + q + b)
tries-count calls count a d q b m bytes (Some udp) tcp old outcome new k t =
    omega (arith, k.sends _ _ _ _ _ t.sent.sends, sends-count calls count a d q b m t.sent.result _ t.waited t.mid k t.sent.after, datagram-count calls count a d q b m bytes _ tcp t.waited t.mid outcome new k t.ends)
tries-count calls count a d q b m bytes None (Some tcp) old outcome new k t =
    omega (arith, stream-count calls count a d q b m bytes tcp old outcome new k t)
tries-count calls count a d q b m bytes None None old outcome new k t = at-network count (count old.network + (a + (2 ^ 64 - 1) * d + q + b)) new old t.1 (omega arith)

-- ---- an exchange

place-count : {N I : Type 0} (calls : NetworkCalls N) (count : N → ℕ) (a d q b : ℕ) (m : Message) (bytes : List ℕ) (place : ℕ) (old : NameServerPool N I) (ends : ControlFlow Outcome Outcome) (new : NameServerPool N I) → IsMeter calls count a d q b
    → TriesPlace calls m bytes place old ends new → count new.requester.network ≤ count old.requester.network + (a + (2 ^ 64 - 1) * d + q + b)
place-count calls count a d q b m bytes place old ends new k (server_accepted tried requester t v) = tries-count calls count a d q b m bytes _ _ old.requester tried requester k t
place-count calls count a d q b m bytes place old ends new k (server_declined tried requester now network t v r) =
    omega (arith, tries-count calls count a d q b m bytes _ _ old.requester tried requester k t, k.reads_clock _ _ _ r)
place-count calls count a d q b m bytes place old ends new k (memory_is_out tried requester t v) = tries-count calls count a d q b m bytes _ _ old.requester tried requester k t

-- each try raises the count by at most a number
abbrev EachCounts : {N I : Type 0} → NetworkCalls N → (N → ℕ) → ℕ → Message → List ℕ → NameServerPool N I → Type 0
EachCounts {N} {I} calls count each m bytes pool =
    (place : ℕ) (old : NameServerPool N I) (ends : ControlFlow Outcome Outcome) (new : NameServerPool N I)
    → TriesPlace calls m bytes place old ends new → count new.requester.network ≤ count old.requester.network + each

runs-count : {N I : Type 0} (calls : NetworkCalls N) (count : N → ℕ) (each : ℕ) (m : Message) (bytes : List ℕ) (plan : List ℕ) (last : Outcome) (old : NameServerPool N I) (outcome : Outcome) (new : NameServerPool N I) → EachCounts calls count each m bytes old
    → Runs calls m bytes plan last old outcome new → count new.requester.network ≤ count old.requester.network + length plan * each
runs-count calls count each m bytes plan last old outcome new k (all_tried l o) = omega arith
runs-count calls count each m bytes plan last old outcome new k (try_ends place rest l o out n t) =
    omega (arith, suc-mul (length rest) each, k place old _ new t)
runs-count calls count each m bytes plan last old outcome new k (next_is_tried place rest l o tried mid out n t r) =
    omega (arith, suc-mul (length rest) each, k place old _ mid t, runs-count calls count each m bytes rest tried mid outcome new k r)

pub length-rounds : (n : ℕ) (order : List ℕ) → length (rounds n order) ≡ n * length order
length-rounds zero order = omega arith
length-rounds (suc n) order =
    omega (arith, length-append order (rounds n order), length-rounds n order, suc-mul n (length order))

-- the reading of the clock comes first
over-reading : (new read old most : ℕ) → new ≤ read + most → read ≤ old → new ≤ old + most
over-reading new read old most h k = omega arith

pub exchange-count : {N I : Type 0} (calls : NetworkCalls N) (count : N → ℕ) (a d q b : ℕ) (m : Message) (old new : NameServerPool N I) (outcome : Outcome) → IsMeter calls count a d q b
    → Exchanges calls m old outcome new → count new.requester.network ≤ count old.requester.network + old.attempts * length old.servers.servers * (a + (2 ^ 64 - 1) * d + q + b)
exchange-count calls count a d q b m old new outcome k no_memory_for_datagram = omega arith
exchange-count calls count a d q b m old new outcome k (no_memory_for_order start network r) = omega (arith, k.reads_clock _ _ _ r)
exchange-count {N} {I} calls count a d q b m old new outcome k (plan_runs bytes start network out n en r runs) =
    let each = a + (2 ^ 64 - 1) * d + q + b in
    let tries : length (rounds old.attempts (order_at start old.servers)) ≡ old.attempts * length old.servers.servers =
    length-rounds old.attempts (order_at start old.servers) ∙ ap (λ n. old.attempts * n) (order-length start old.servers) in
    let counts : EachCounts calls count each m bytes old = λ place before ends after t. place-count calls count a d q b m bytes place before ends after k t in
    let most : count new.requester.network ≤ count network + length (rounds old.attempts (order_at start old.servers)) * each = runs-count calls count each m bytes _ _ _ outcome new counts runs in
    let read : count network ≤ count old.requester.network = k.reads_clock _ _ _ r in
    let same : count new.requester.network ≤ count network + old.attempts * length old.servers.servers * each =
    subst (λ n. count new.requester.network ≤ count network + n * each) tries most in
    over-reading (count new.requester.network) (count network) (count old.requester.network) (old.attempts * length old.servers.servers * each) same read
