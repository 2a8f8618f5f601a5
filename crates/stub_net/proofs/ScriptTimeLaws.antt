-- A script's clock: it does not go back, and no call ends after its deadline.
use Rattle.std.proofs.Common.{◌≡◌, ◌+◌, ◌≤◌, max, List, ℕ, Option, Some, Result, Ok, ap, arith, inl, inr}
use Rattle.std.specs.declared.net.socket_addr.SocketAddr.{SocketAddr}
use Rattle.stub_config.specs.declared.config.connection.Protocol.TheVariants.{Tcp}
use Rattle.stub_link.specs.declared.link.LinkError.{LinkError}
use Rattle.stub_net.specs.Script.{Receives, ScriptState, Sends, Streams, TakesEvent, in_time, passed, received, script_calls, script_over, too_late, transmit}
use Rattle.stub_net.specs.Time.{IsTimed}
use Rattle.stub_net.specs.declared.network.scripted.NetworkEvent.{NetworkEvent}
use Rattle.stub_net.specs.declared.network.scripted.NetworkEvent.TheVariants.{Arrival, Failure, SendFailure, Silence}

-- an event comes by the deadline, or leaves the clock as it is
takes-forward : (deadline : ℕ) (old : ScriptState) (event : NetworkEvent) (mid : ScriptState) → TakesEvent deadline old event mid → old.clock ≤ mid.clock
takes-forward deadline old event mid (script_over e) = omega arith
takes-forward deadline old event mid (in_time next rest e h) = omega arith
takes-forward deadline old event mid (too_late next rest e h) = omega arith

takes-within : (deadline : ℕ) (old : ScriptState) (event : NetworkEvent) (mid : ScriptState) → TakesEvent deadline old event mid → mid.clock ≤ max old.clock deadline
takes-within deadline old event mid (script_over e) = omega arith
takes-within deadline old event mid (in_time next rest e h) = omega (arith, h)
takes-within deadline old event mid (too_late next rest e h) = omega arith

-- a message arrives by the deadline
arrives-within : (deadline : ℕ) (old : ScriptState) (event : NetworkEvent) (mid : ScriptState) (bytes : List ℕ) → TakesEvent deadline old event mid → event ≡ Arrival bytes → old.clock ≤ deadline
arrives-within deadline old event mid bytes (script_over e) is = absurd (cc)
arrives-within deadline old event mid bytes (in_time next rest e h) is = omega (arith, h)
arrives-within deadline old event mid bytes (too_late next rest e h) is = absurd (cc)

-- silence lasts until the deadline
passed-forward : (deadline : ℕ) (event : NetworkEvent) (mid : ScriptState) → mid.clock ≤ (passed deadline event mid).clock
passed-forward deadline Silence mid = omega arith
passed-forward deadline (Arrival bytes) mid = omega arith
passed-forward deadline Failure mid = omega arith
passed-forward deadline SendFailure mid = omega arith

passed-within : (deadline : ℕ) (event : NetworkEvent) (mid : ScriptState) → (passed deadline event mid).clock ≤ max mid.clock deadline
passed-within deadline Silence mid = omega arith
passed-within deadline (Arrival bytes) mid = omega arith
passed-within deadline Failure mid = omega arith
passed-within deadline SendFailure mid = omega arith

-- what brings a datagram is an arrival
is-arrival : (event : NetworkEvent) (bytes : List ℕ) → Ok (Some bytes) ≡ received event → event ≡ Arrival bytes
is-arrival Silence bytes e = absurd (cc)
is-arrival (Arrival other) bytes e = cc
is-arrival Failure bytes e = absurd (cc)
is-arrival SendFailure bytes e = absurd (cc)

-- ---- calls

receives-forward : (old : ScriptState) (deadline : ℕ) (result : Result (Option (List ℕ)) LinkError) (new : ScriptState) → Receives old deadline result new → old.clock ≤ new.clock
receives-forward old deadline result new r =
    let begun : old.clock ≤ r.mid.clock = takes-forward deadline old r.event r.mid r.takes in
    let ended : r.mid.clock ≤ (passed deadline r.event r.mid).clock = passed-forward deadline r.event r.mid in
    let is : new.clock ≡ (passed deadline r.event r.mid).clock = ap (λ (s : ScriptState). s.clock) r.new_is in
    omega (arith, begun, ended, is)

receives-within : (old : ScriptState) (deadline : ℕ) (result : Result (Option (List ℕ)) LinkError) (new : ScriptState) → Receives old deadline result new → new.clock ≤ max old.clock deadline + 0
receives-within old deadline result new r =
    let begun : r.mid.clock ≤ max old.clock deadline = takes-within deadline old r.event r.mid r.takes in
    let ended : (passed deadline r.event r.mid).clock ≤ max r.mid.clock deadline = passed-within deadline r.event r.mid in
    let is : new.clock ≡ (passed deadline r.event r.mid).clock = ap (λ (s : ScriptState). s.clock) r.new_is in
    omega (arith, begun, ended, is)

-- a send does not wait
sends-same : (old : ScriptState) (server : SocketAddr) (bytes : List ℕ) (result : Result (Unit {0}) LinkError) (new : ScriptState) → Sends old server bytes result new → new.clock ≡ old.clock
sends-same old server bytes result new s =
    elim s [
      | inl h ↦ ap (λ (t : ScriptState). t.clock) h.1
      | inr h ↦ ap (λ (t : ScriptState). t.clock) h.2.others
    ]

streams-forward : (old : ScriptState) (server : SocketAddr) (bytes : List ℕ) (deadline : ℕ) (result : Result (List ℕ) LinkError) (new : ScriptState) → Streams old server bytes deadline result new → old.clock ≤ new.clock
streams-forward old server bytes deadline result new s =
    elim s [
      | inl h ↦ let is : new.clock ≡ old.clock = ap (λ (t : ScriptState). t.clock) h.1 in omega (arith, is)
      | inr h ↦ receives-forward (transmit Tcp server bytes old) deadline h.0 new h.2
    ]

streams-within : (old : ScriptState) (server : SocketAddr) (bytes : List ℕ) (deadline : ℕ) (result : Result (List ℕ) LinkError) (new : ScriptState) → Streams old server bytes deadline result new → new.clock ≤ max old.clock deadline + 0
streams-within old server bytes deadline result new s =
    elim s [
      | inl h ↦ let is : new.clock ≡ old.clock = ap (λ (t : ScriptState). t.clock) h.1 in omega (arith, is)
      | inr h ↦ receives-within (transmit Tcp server bytes old) deadline h.0 new h.2
    ]

pub scripts-timed : IsTimed script_calls (λ state. state.clock) 0
scripts-timed = record {
  clock_is = record {
    sends = λ old server bytes result new s. let is : new.clock ≡ old.clock = sends-same old server bytes result new s in omega (arith, is);
    receives = λ old deadline result new r. receives-forward old deadline result new r;
    streams = λ old server bytes deadline result new s. streams-forward old server bytes deadline result new s;
    reads_clock = λ old now new r. let is : new.clock ≡ old.clock = ap (λ (t : ScriptState). t.clock) r.1 in (omega (arith, r.0), omega (arith, r.0, is));
    arrives = λ old deadline bytes new r. arrives-within deadline old r.event r.mid bytes r.takes (is-arrival r.event bytes r.result_is);
  };
  prompt = record {
    sends = λ old server bytes result new s. let is : new.clock ≡ old.clock = sends-same old server bytes result new s in omega (arith, is);
    receives = λ old deadline result new r. receives-within old deadline result new r;
    streams = λ old server bytes deadline result new s. streams-within old server bytes deadline result new s;
    reads_clock = λ old now new r. let is : new.clock ≡ old.clock = ap (λ (t : ScriptState). t.clock) r.1 in omega (arith, is);
  };
}
