-- How long an exchange takes.
use Rattle.std.proofs.Common.{◌≡◌, ◌+◌, ◌-◌, ◌*◌, ◌^◌, ◌≤◌, max, min, Bool, true, false, List, ℕ, Option, Some, None, Result, Ok, Err, length, refl, sym, ap, subst, ◌∙◌, arith}
use Rattle.std.proofs.Math.Nat.{suc-mul}
use Rattle.std.specs.declared.net.socket_addr.SocketAddr.{SocketAddr}
use Rattle.std.specs.declared.ops.ControlFlow.{ControlFlow}
use Rattle.dns_messages.specs.declared.message.Message.{Message}
use Rattle.stub_client.specs.Handle.{Outcome}
use Rattle.stub_link.specs.declared.link.LinkError.{LinkError}
use Rattle.stub_link.specs.declared.link.LinkError.TheVariants.{Failed, Memory}
use Rattle.stub_servers.specs.ServerList.{order_at}
use Rattle.stub_servers.proofs.PlacesLaws.{order-length}
use Rattle.stub_net.specs.Exchange.{Exchanges, Runs, TriesPlace, all_tried, memory_is_out, next_is_tried, no_memory_for_datagram, no_memory_for_order, plan_runs, rounds, server_accepted, server_declined, try_ends}
use Rattle.stub_net.specs.Network.{NetworkCalls}
use Rattle.stub_net.specs.Request.{is_cut, is_cut_reply}
use Rattle.stub_net.specs.Time.{EndsInTime, IsClock, IsTimed, prompt_calls}
use Rattle.stub_net.specs.Try.{AfterDatagram, AfterSend, AsksStream, AwaitsReply, ReadsDeadline, SendsDatagram, TriesAddresses, count_datagram, count_stream, over_network}
use Rattle.stub_net.specs.Wait.{Awaits, deadline_passes, no_memory_to_decode, no_memory_to_receive, none_left, other_arrives, receive_fails, reply_arrives}
use Rattle.stub_net.specs.declared.pool.NameServerPool.{NameServerPool}
use Rattle.stub_net.specs.declared.requester.Requester.{Requester}
use Rattle.stub_net.proofs.BoundLaws.{length-rounds}

-- ---- the wait

-- When a wait ends, by its outcome. The receive that brings the reply began by the deadline; the last one of a wait without a reply
-- may have begun as late as the end of the one before.
abbrev wait_end : Outcome → ℕ → ℕ → ℕ → ℕ
wait_end (Ok response) start deadline slack = deadline + slack
wait_end (Err error) start deadline slack = max start (deadline + slack) + slack

-- a datagram that is not the reply arrived in time
after-other : (outcome : Outcome) (start mid deadline slack new : ℕ) → mid ≤ deadline + slack → new ≤ wait_end outcome mid deadline slack → new ≤ wait_end outcome start deadline slack
after-other (Ok response) start mid deadline slack new h e = e
after-other (Err error) start mid deadline slack new h e = omega arith

awaits-end : {N : Type 0} (calls : NetworkCalls N) (clock : N → ℕ) (slack : ℕ) (m : Message) (deadline left : ℕ) (old : N) (dropped : ℕ) (outcome : Outcome) (new : N) (total : ℕ) → IsTimed calls clock slack
    → Awaits calls m deadline left old dropped outcome new total → clock new ≤ wait_end outcome (clock old) deadline slack
awaits-end calls clock slack m deadline left old dropped outcome new total k (reply_arrives l o d bytes response n h r f) =
    omega (arith, k.clock_is.arrives _ _ _ _ r, k.prompt.receives _ _ _ _ r)
awaits-end calls clock slack m deadline left old dropped outcome new total k (other_arrives l o d bytes mid out n t h r f more) =
    let begun : clock old ≤ deadline = k.clock_is.arrives _ _ _ _ r in
    let ended : clock mid ≤ max (clock old) deadline + slack = k.prompt.receives _ _ _ _ r in
    after-other outcome (clock old) (clock mid) deadline slack (clock new) (omega arith) (awaits-end calls clock slack m deadline _ mid _ outcome new total k more)
awaits-end calls clock slack m deadline left old dropped outcome new total k (no_memory_to_decode l o d bytes n h r f) =
    omega (arith, k.prompt.receives _ _ _ _ r)
awaits-end calls clock slack m deadline left old dropped outcome new total k (deadline_passes l o d n h r) = omega (arith, k.prompt.receives _ _ _ _ r)
awaits-end calls clock slack m deadline left old dropped outcome new total k (receive_fails l o d n h r) = omega (arith, k.prompt.receives _ _ _ _ r)
awaits-end calls clock slack m deadline left old dropped outcome new total k (no_memory_to_receive l o d n h r) = omega (arith, k.prompt.receives _ _ _ _ r)
awaits-end calls clock slack m deadline left old dropped outcome new total k (none_left l o d z) = omega arith

awaits-forward : {N : Type 0} (calls : NetworkCalls N) (clock : N → ℕ) (slack : ℕ) (m : Message) (deadline left : ℕ) (old : N) (dropped : ℕ) (outcome : Outcome) (new : N) (total : ℕ) → IsTimed calls clock slack
    → Awaits calls m deadline left old dropped outcome new total → clock old ≤ clock new
awaits-forward calls clock slack m deadline left old dropped outcome new total k (reply_arrives l o d bytes response n h r f) = k.clock_is.receives _ _ _ _ r
awaits-forward calls clock slack m deadline left old dropped outcome new total k (other_arrives l o d bytes mid out n t h r f more) =
    omega (arith, k.clock_is.receives _ _ _ _ r, awaits-forward calls clock slack m deadline _ mid _ outcome new total k more)
awaits-forward calls clock slack m deadline left old dropped outcome new total k (no_memory_to_decode l o d bytes n h r f) = k.clock_is.receives _ _ _ _ r
awaits-forward calls clock slack m deadline left old dropped outcome new total k (deadline_passes l o d n h r) = k.clock_is.receives _ _ _ _ r
awaits-forward calls clock slack m deadline left old dropped outcome new total k (receive_fails l o d n h r) = k.clock_is.receives _ _ _ _ r
awaits-forward calls clock slack m deadline left old dropped outcome new total k (no_memory_to_receive l o d n h r) = k.clock_is.receives _ _ _ _ r
awaits-forward calls clock slack m deadline left old dropped outcome new total k (none_left l o d z) = omega arith

-- ---- one try

-- a requester comes to a state that is at most so much later, and its time-out stays
abbrev Lasts : {N : Type 0} → (N → ℕ) → ℕ → Requester N → Requester N → Type 0
Lasts clock most old new =
    (clock old.network ≤ clock new.network) × (clock new.network ≤ clock old.network + most) × (new.timeout ≡ old.timeout)

lasts-to : {N : Type 0} (clock : N → ℕ) (most : ℕ) (old new other : Requester N) → new ≡ other → Lasts clock most old other → Lasts clock most old new
lasts-to {N} clock most old new other e h = subst (λ (r : Requester N). Lasts clock most old r) (sym e) h

at-once : {N : Type 0} (clock : N → ℕ) (most : ℕ) (old new : Requester N) → new ≡ old → Lasts clock most old new
at-once clock most old new e = lasts-to clock most old new old e (omega arith, omega arith, refl)

-- one thing after another
both-last : {N : Type 0} (clock : N → ℕ) (a b most : ℕ) (old mid new : Requester N) → Lasts clock a old mid → Lasts clock b mid new → a + b ≤ most → Lasts clock most old new
both-last clock a b most old mid new h k le = (omega (arith, h.0, k.0), omega (arith, h.1, k.1), k.2 ∙ h.2)

deadline-lasts : {N : Type 0} (calls : NetworkCalls N) (clock : N → ℕ) (slack : ℕ) (old : Requester N) (deadline : ℕ) (new : Requester N) → IsTimed calls clock slack
    → ReadsDeadline calls.reads_clock old deadline new → Lasts clock slack old new
deadline-lasts calls clock slack old deadline new k r =
    let read : (clock old.network ≤ r.start) × (r.start ≤ clock r.after) = k.clock_is.reads_clock _ _ _ r.reads in
    let late : clock r.after ≤ clock old.network + slack = k.prompt.reads_clock _ _ _ r.reads in
    lasts-to clock slack old new _ r.new_is (omega (arith, read.0, read.1), late, refl)

deadline-within : {N : Type 0} (calls : NetworkCalls N) (clock : N → ℕ) (slack : ℕ) (old : Requester N) (deadline : ℕ) (new : Requester N) → IsTimed calls clock slack
    → ReadsDeadline calls.reads_clock old deadline new → deadline ≤ clock old.network + slack + old.timeout
deadline-within calls clock slack old deadline new k r =
    let read : (clock old.network ≤ r.start) × (r.start ≤ clock r.after) = k.clock_is.reads_clock _ _ _ r.reads in
    let late : clock r.after ≤ clock old.network + slack = k.prompt.reads_clock _ _ _ r.reads in
    let is : deadline ≡ min (r.start + old.timeout) (2 ^ 64 - 1) = r.deadline_is in
    omega (arith, read.1, late, is)

-- how long a wait lasts, with the reading of the clock before it
abbrev wait_time : Outcome → ℕ → ℕ → ℕ
wait_time (Ok response) timeout slack = timeout + 2 * slack
wait_time (Err error) timeout slack = timeout + 3 * slack

wait-within : (outcome : Outcome) (start mid deadline slack timeout new : ℕ) → mid ≤ start + slack → deadline ≤ start + slack + timeout → new ≤ wait_end outcome mid deadline slack → new ≤ start + wait_time outcome timeout slack
wait-within (Ok response) start mid deadline slack timeout new h d e = omega arith
wait-within (Err error) start mid deadline slack timeout new h d e = omega arith

waits-last : {N : Type 0} (calls : NetworkCalls N) (clock : N → ℕ) (slack : ℕ) (m : Message) (old : Requester N) (outcome : Outcome) (new : Requester N) → IsTimed calls clock slack
    → AwaitsReply calls m old outcome new → Lasts clock (wait_time outcome old.timeout slack) old new
waits-last calls clock slack m old outcome new k w =
    let begun : Lasts clock slack old w.mid = deadline-lasts calls clock slack old w.deadline w.mid k w.reads in
    let by : w.deadline ≤ clock old.network + slack + old.timeout = deadline-within calls clock slack old w.deadline w.mid k w.reads in
    let forward : clock w.mid.network ≤ clock w.network = awaits-forward calls clock slack m w.deadline _ _ _ outcome _ _ k w.awaits in
    let ended : clock w.network ≤ wait_end outcome (clock w.mid.network) w.deadline slack = awaits-end calls clock slack m w.deadline _ _ _ outcome _ _ k w.awaits in
    lasts-to clock (wait_time outcome old.timeout slack) old new _ w.new_is
    (omega (arith, begun.0, forward), wait-within outcome (clock old.network) (clock w.mid.network) w.deadline slack old.timeout (clock w.network) begun.1 by ended, begun.2)

after-send : {N : Type 0} (calls : NetworkCalls N) (clock : N → ℕ) (slack : ℕ) (m : Message) (result : Result (Unit {0}) LinkError) (mid : Requester N) (outcome : Outcome) (new : Requester N) → IsTimed calls clock slack
    → AfterSend calls m result mid outcome new → Lasts clock (wait_time outcome mid.timeout slack) mid new
after-send calls clock slack m (Ok done) mid outcome new k s = waits-last calls clock slack m (count_datagram mid) outcome new k s
after-send calls clock slack m (Err Failed) mid outcome new k s = at-once clock (wait_time outcome mid.timeout slack) mid new s.1
after-send calls clock slack m (Err Memory) mid outcome new k s = at-once clock (wait_time outcome mid.timeout slack) mid new s.1

sends-last : {N : Type 0} (calls : NetworkCalls N) (clock : N → ℕ) (slack : ℕ) (m : Message) (bytes : List ℕ) (server : SocketAddr) (old : Requester N) (outcome : Outcome) (new : Requester N) → IsTimed calls clock slack
    → SendsDatagram calls m bytes server old outcome new → Lasts clock (slack + wait_time outcome old.timeout slack) old new
sends-last calls clock slack m bytes server old outcome new k s =
    both-last clock slack (wait_time outcome old.timeout slack) (slack + wait_time outcome old.timeout slack) old (over_network s.network old) new
    (k.clock_is.sends _ _ _ _ _ s.sends, k.prompt.sends _ _ _ _ _ s.sends, refl)
    (after-send calls clock slack m s.result (over_network s.network old) outcome new k s.after) (omega arith)

stream-lasts : {N : Type 0} (calls : NetworkCalls N) (clock : N → ℕ) (slack : ℕ) (m : Message) (bytes : List ℕ) (server : SocketAddr) (old : Requester N) (outcome : Outcome) (new : Requester N) → IsTimed calls clock slack
    → AsksStream calls m bytes server old outcome new → Lasts clock (old.timeout + 2 * slack) old new
stream-lasts calls clock slack m bytes server old outcome new k s =
    let begun : Lasts clock slack (count_stream old) s.mid = deadline-lasts calls clock slack (count_stream old) s.deadline s.mid k s.reads in
    let by : s.deadline ≤ clock old.network + slack + old.timeout = deadline-within calls clock slack (count_stream old) s.deadline s.mid k s.reads in
    let forward : clock s.mid.network ≤ clock s.network = k.clock_is.streams _ _ _ _ _ _ s.streams in
    let ended : clock s.network ≤ max (clock s.mid.network) s.deadline + slack = k.prompt.streams _ _ _ _ _ _ s.streams in
    lasts-to clock (old.timeout + 2 * slack) old new _ s.new_is (omega (arith, begun.0, forward), omega (arith, begun.1, by, ended), begun.2)

-- a truncated reply is asked for again over a stream
after-reply : {N : Type 0} (calls : NetworkCalls N) (clock : N → ℕ) (slack : ℕ) (m : Message) (bytes : List ℕ) (cut : Bool) (tcp : Option SocketAddr) (waited : Outcome) (mid : Requester N) (outcome : Outcome) (new : Requester N) → IsTimed calls clock slack
    → AfterDatagram calls m bytes cut tcp waited mid outcome new → Lasts clock (mid.timeout + 2 * slack) mid new
after-reply calls clock slack m bytes false tcp waited mid outcome new k e = at-once clock (mid.timeout + 2 * slack) mid new e.1
after-reply calls clock slack m bytes true (Some tcp) waited mid outcome new k e = stream-lasts calls clock slack m bytes tcp mid outcome new k e
after-reply calls clock slack m bytes true None waited mid outcome new k e = at-once clock (mid.timeout + 2 * slack) mid new e.1

-- nothing comes after a datagram without a reply, so that the longer wait and the stream do not add up
after-datagram : {N : Type 0} (calls : NetworkCalls N) (clock : N → ℕ) (slack : ℕ) (m : Message) (bytes : List ℕ) (tcp : Option SocketAddr) (waited : Outcome) (old mid : Requester N) (outcome : Outcome) (new : Requester N) → IsTimed calls clock slack
    → Lasts clock (slack + wait_time waited old.timeout slack) old mid → AfterDatagram calls m bytes (is_cut_reply m waited) tcp waited mid outcome new → Lasts clock (2 * old.timeout + 5 * slack) old new
after-datagram calls clock slack m bytes tcp (Ok response) old mid outcome new k h e =
    let same : mid.timeout ≡ old.timeout = h.2 in
    both-last clock (slack + (old.timeout + 2 * slack)) (mid.timeout + 2 * slack) (2 * old.timeout + 5 * slack) old mid new h
    (after-reply calls clock slack m bytes (is_cut m response) tcp (Ok response) mid outcome new k e) (omega (arith, same))
after-datagram calls clock slack m bytes tcp (Err error) old mid outcome new k h e =
    both-last clock (slack + (old.timeout + 3 * slack)) 0 (2 * old.timeout + 5 * slack) old mid new h (at-once clock 0 mid new e.1) (omega arith)

try-lasts : {N : Type 0} (calls : NetworkCalls N) (clock : N → ℕ) (slack : ℕ) (m : Message) (bytes : List ℕ) (udp tcp : Option SocketAddr) (old : Requester N) (outcome : Outcome) (new : Requester N) → IsTimed calls clock slack
    → TriesAddresses calls m bytes udp tcp old outcome new → Lasts clock (2 * old.timeout + 5 * slack) old new
try-lasts calls clock slack m bytes (Some udp) tcp old outcome new k t =
    after-datagram calls clock slack m bytes tcp t.waited old t.mid outcome new k (sends-last calls clock slack m bytes udp old t.waited t.mid k t.sent) t.ends
try-lasts calls clock slack m bytes None (Some tcp) old outcome new k t =
    both-last clock (old.timeout + 2 * slack) 0 (2 * old.timeout + 5 * slack) old new new (stream-lasts calls clock slack m bytes tcp old outcome new k t) (at-once clock 0 new new refl) (omega arith)
try-lasts calls clock slack m bytes None None old outcome new k t = at-once clock (2 * old.timeout + 5 * slack) old new t.1

-- ---- an exchange

longer : {N : Type 0} (clock : N → ℕ) (a most : ℕ) (old new : Requester N) → Lasts clock a old new → a ≤ most → Lasts clock most old new
longer clock a most old new h le = (h.0, omega (arith, h.1), h.2)

place-lasts : {N I : Type 0} (calls : NetworkCalls N) (clock : N → ℕ) (slack each : ℕ) (m : Message) (bytes : List ℕ) (place : ℕ) (old : NameServerPool N I) (ends : ControlFlow Outcome Outcome) (new : NameServerPool N I) → IsTimed calls clock slack
    → 2 * old.requester.timeout + 6 * slack ≤ each → TriesPlace calls m bytes place old ends new → Lasts clock each old.requester new.requester
place-lasts calls clock slack each m bytes place old ends new k le (server_accepted tried requester t v) =
    longer clock (2 * old.requester.timeout + 5 * slack) each old.requester requester (try-lasts calls clock slack m bytes _ _ old.requester tried requester k t) (omega arith)
place-lasts calls clock slack each m bytes place old ends new k le (server_declined tried requester now network t v r) =
    let read : (clock requester.network ≤ now) × (now ≤ clock network) = k.clock_is.reads_clock _ _ _ r in
    both-last clock (2 * old.requester.timeout + 5 * slack) slack each old.requester requester (over_network network requester) (try-lasts calls clock slack m bytes _ _ old.requester tried requester k t)
    (omega (arith, read.0, read.1), k.prompt.reads_clock _ _ _ r, refl) (omega arith)
place-lasts calls clock slack each m bytes place old ends new k le (memory_is_out tried requester t v) =
    longer clock (2 * old.requester.timeout + 5 * slack) each old.requester requester (try-lasts calls clock slack m bytes _ _ old.requester tried requester k t) (omega arith)

runs-last : {N I : Type 0} (calls : NetworkCalls N) (clock : N → ℕ) (slack each : ℕ) (m : Message) (bytes : List ℕ) (plan : List ℕ) (last : Outcome) (old : NameServerPool N I) (outcome : Outcome) (new : NameServerPool N I) → IsTimed calls clock slack
    → 2 * old.requester.timeout + 6 * slack ≤ each → Runs calls m bytes plan last old outcome new → Lasts clock (length plan * each) old.requester new.requester
runs-last calls clock slack each m bytes plan last old outcome new k le (all_tried l o) = at-once clock (length plan * each) old.requester old.requester refl
runs-last calls clock slack each m bytes plan last old outcome new k le (try_ends place rest l o out n t) =
    longer clock each (length plan * each) old.requester new.requester (place-lasts calls clock slack each m bytes place old _ new k le t) (omega (arith, suc-mul (length rest) each))
runs-last calls clock slack each m bytes plan last old outcome new k le (next_is_tried place rest l o tried mid out n t r) =
    let first : Lasts clock each old.requester mid.requester = place-lasts calls clock slack each m bytes place old _ mid k le t in
    let same : mid.requester.timeout ≡ old.requester.timeout = first.2 in
    both-last clock each (length rest * each) (length plan * each) old.requester mid.requester new.requester first
    (runs-last calls clock slack each m bytes rest tried mid outcome new k (omega (arith, same)) r) (omega (arith, suc-mul (length rest) each))

-- the reading of the clock comes first
over-reading : (new read old slack most : ℕ) → new ≤ read + most → read ≤ old + slack → new ≤ old + slack + most
over-reading new read old slack most h k = omega arith

pub exchange-ends : {N I : Type 0} (calls : NetworkCalls N) (clock : N → ℕ) (slack : ℕ) (m : Message) (old new : NameServerPool N I) (outcome : Outcome) → IsTimed calls clock slack
    → Exchanges calls m old outcome new → EndsInTime clock slack old new
exchange-ends calls clock slack m old new outcome k no_memory_for_datagram = record { forward = omega arith; within = omega arith }
exchange-ends calls clock slack m old new outcome k (no_memory_for_order start network r) =
    let read : (clock old.requester.network ≤ start) × (start ≤ clock network) = k.clock_is.reads_clock _ _ _ r in
    let late : clock network ≤ clock old.requester.network + slack = k.prompt.reads_clock _ _ _ r in
    record { forward = omega (arith, read.0, read.1); within = omega (arith, late) }
exchange-ends calls clock slack m old new outcome k (plan_runs bytes start network out n en r runs) =
    let read : (clock old.requester.network ≤ start) × (start ≤ clock network) = k.clock_is.reads_clock _ _ _ r in
    let late : clock network ≤ clock old.requester.network + slack = k.prompt.reads_clock _ _ _ r in
    let each = 2 * (old.requester.timeout + 3 * slack) in
    let plan = rounds old.attempts (order_at start old.servers) in
    let tries : length plan ≡ old.attempts * length old.servers.servers =
    length-rounds old.attempts (order_at start old.servers) ∙ ap (λ n. old.attempts * n) (order-length start old.servers) in
    let lasts : Lasts clock (length plan * each) (over_network network old.requester) new.requester = runs-last calls clock slack each m bytes plan _ _ outcome new k (omega arith) runs in
    let most : clock new.requester.network ≤ clock network + old.attempts * length old.servers.servers * each =
    subst (λ n. clock new.requester.network ≤ clock network + n * each) tries lasts.1 in
    record {
      forward = omega (arith, read.0, read.1, lasts.0);
      within = over-reading (clock new.requester.network) (clock network) (clock old.requester.network) slack (old.attempts * length old.servers.servers * each) most late;
    }

-- ---- the calls that end in time

pub prompt-is_timed : {N : Type 0} (calls : NetworkCalls N) (clock : N → ℕ) (slack : ℕ) → IsClock calls clock → IsTimed (prompt_calls clock slack calls) clock slack
prompt-is_timed calls clock slack k = record {
  clock_is = record {
    sends = λ old server bytes result new c. k.sends old server bytes result new c.0;
    receives = λ old deadline result new c. k.receives old deadline result new c.0;
    streams = λ old server bytes deadline result new c. k.streams old server bytes deadline result new c.0;
    reads_clock = λ old now new c. k.reads_clock old now new c.0;
    arrives = λ old deadline bytes new c. k.arrives old deadline bytes new c.0;
  };
  prompt = record {
    sends = λ old server bytes result new c. c.1;
    receives = λ old deadline result new c. c.1;
    streams = λ old server bytes deadline result new c. c.1;
    reads_clock = λ old now new c. c.1;
  };
}
