-- Signed replies over a network in memory are messages of its script.
use Rattle.std.proofs.Common.{◌≡◌, Bool, true, false, List, [], ◌∷◌, ◌++◌, ℕ, suc, Option, Some, None, Result, Ok, Err, refl, sym, subst, ap, ◌∙◌, arith, ⊎_elim}
use Rattle.std.proofs.lemmas.List.Elements.{All-head, All-tail}
use Rattle.std.specs.List.{All, Contains}
use Rattle.std.specs.declared.net.socket_addr.SocketAddr.{SocketAddr}
use Rattle.dns_messages.specs.declared.message.Message.{Message}
use Rattle.dns_messages.specs.declared.response.DnsResponse.{DnsResponse}
use Rattle.dns_tsig.specs.signer.Signer.{SignsRequest}
use Rattle.dns_tsig.specs.declared.key.Key.{Key}
use Rattle.stub_config.specs.declared.config.connection.Protocol.TheVariants.{Tcp, Udp}
use Rattle.stub_link.specs.declared.link.LinkError.{LinkError}
use Rattle.stub_net.specs.Script.{Receives, ScriptState, Sends, Streams, TakesEvent, TakesFirstSendFailure, in_time, passed, received, script_calls, script_over, stream_result, too_late, transmit}
use Rattle.stub_net.specs.declared.network.scripted.NetworkEvent.{NetworkEvent}
use Rattle.stub_net.specs.declared.network.scripted.NetworkEvent.TheVariants.{Arrival, Failure, SendFailure, Silence}
use Rattle.stub_net.specs.declared.network.scripted.TimedEvent.{TimedEvent}
use Rattle.stub_net.specs.declared.network.scripted.Transmission.{Transmission}
use Rattle.stub_net.specs.signed.Arrival.{IsAcceptedArrival, IsSignedArrival}
use Rattle.stub_net.specs.signed.Reply.{BringsReply, EndsWithReply, IsAccepted, IsSignedReply, by_datagram, by_stream}
use Rattle.stub_net.specs.signed.Signed.{time_at}
use Rattle.stub_net.specs.signed.Run.{ClockRead, IsClockRead, IsOfWait, IsRun, IsStep, NetworkStep, Received, Sent, Streamed}

-- ---- what is left of a script

-- what is left of a script was in it before
abbrev Keeps : List TimedEvent → List TimedEvent → Type 0
Keeps old new = (e : TimedEvent) → Contains new e → Contains old e

contains_first : (e : TimedEvent) (rest : List TimedEvent) → Contains (e ∷ rest) e
contains_first e rest = (0, omega arith, refl)

contains_behind : (e first : TimedEvent) (rest : List TimedEvent) → Contains rest e → Contains (first ∷ rest) e
contains_behind e first rest h = (suc h.0, omega (arith, h.1), h.2)

keeps_rest : (old : List TimedEvent) (first : TimedEvent) (rest : List TimedEvent) → old ≡ first ∷ rest → Keeps old rest
keeps_rest old first rest is = λ e h. subst (λ events. Contains events e) (sym is) (contains_behind e first rest h)

takes_keeps : (deadline : ℕ) (old : ScriptState) (event : NetworkEvent) (mid : ScriptState) → TakesEvent deadline old event mid → Keeps old.script mid.script
takes_keeps deadline old event mid (script_over is) = λ e h. h
takes_keeps deadline old event mid (in_time next rest is h) = keeps_rest old.script next rest is
takes_keeps deadline old event mid (too_late next rest is h) = keeps_rest old.script next rest is

takes_sent : (deadline : ℕ) (old : ScriptState) (event : NetworkEvent) (mid : ScriptState) → TakesEvent deadline old event mid → mid.sent ≡ old.sent
takes_sent deadline old event mid (script_over is) = refl
takes_sent deadline old event mid (in_time next rest is h) = refl
takes_sent deadline old event mid (too_late next rest is h) = refl

-- a message of a script
record Arrives (script : List TimedEvent) (reply : List ℕ) : Type 0 where
  arrival : TimedEvent
  there : Contains script arrival
  event_is : arrival.event ≡ Arrival reply

takes_arrival : (deadline : ℕ) (reply : List ℕ) (old : ScriptState) (event : NetworkEvent) (mid : ScriptState) → TakesEvent deadline old event mid → event ≡ Arrival reply → Arrives old.script reply
takes_arrival deadline reply old event mid (script_over is) e = absurd (cc)
takes_arrival deadline reply old event mid (in_time next rest is h) e =
    record { arrival = next; there = subst (λ events. Contains events next) (sym is) (contains_first next rest); event_is = e }
takes_arrival deadline reply old event mid (too_late next rest is h) e = absurd (cc)

passed_script : (deadline : ℕ) (event : NetworkEvent) (mid : ScriptState) → (passed deadline event mid).script ≡ mid.script
passed_script deadline (Arrival bytes) mid = refl
passed_script deadline Silence mid = refl
passed_script deadline Failure mid = refl
passed_script deadline SendFailure mid = refl

passed_sent : (deadline : ℕ) (event : NetworkEvent) (mid : ScriptState) → (passed deadline event mid).sent ≡ mid.sent
passed_sent deadline (Arrival bytes) mid = refl
passed_sent deadline Silence mid = refl
passed_sent deadline Failure mid = refl
passed_sent deadline SendFailure mid = refl

receives_keeps : (old : ScriptState) (deadline : ℕ) (result : Result (Option (List ℕ)) LinkError) (new : ScriptState) → Receives old deadline result new → Keeps old.script new.script
receives_keeps old deadline result new r =
    let script_is : new.script ≡ r.mid.script = ap (λ (s : ScriptState). s.script) r.new_is ∙ passed_script deadline r.event r.mid in
    λ e h. takes_keeps deadline old r.event r.mid r.takes e (subst (λ events. Contains events e) script_is h)

receives_sent : (old : ScriptState) (deadline : ℕ) (result : Result (Option (List ℕ)) LinkError) (new : ScriptState) → Receives old deadline result new → new.sent ≡ old.sent
receives_sent old deadline result new r =
    ap (λ (s : ScriptState). s.sent) r.new_is ∙ passed_sent deadline r.event r.mid ∙ takes_sent deadline old r.event r.mid r.takes

message_event : (reply : List ℕ) (event : NetworkEvent) → Ok (Some reply) ≡ received event → event ≡ Arrival reply
message_event reply (Arrival bytes) e = cc
message_event reply Silence e = absurd (cc)
message_event reply Failure e = absurd (cc)
message_event reply SendFailure e = absurd (cc)

receives_arrival : (old : ScriptState) (deadline : ℕ) (reply : List ℕ) (new : ScriptState) → Receives old deadline (Ok (Some reply)) new → Arrives old.script reply
receives_arrival old deadline reply new r = takes_arrival deadline reply old r.event r.mid r.takes (message_event reply r.event r.result_is)

first_keeps : (script : List TimedEvent) (taken : Bool) (rest : List TimedEvent) → TakesFirstSendFailure script taken rest → Keeps script rest
first_keeps [] taken rest t = λ e h. subst (λ events. Contains events e) t.1 h
first_keeps (next ∷ others) true rest t = λ e h. contains_behind e next others (subst (λ events. Contains events e) t.1 h)
first_keeps (next ∷ others) false rest t = λ e h. subst (λ events. Contains events e) t.1 h

-- ---- a message that is sent

-- the last message that was sent is this one, at this moment
record Transmits (old new : ScriptState) (bytes : List ℕ) : Type 0 where
  last : Transmission
  sent_is : new.sent ≡ old.sent ++ last ∷ []
  moment_is : last.moment ≡ old.clock
  bytes_are : last.bytes ≡ bytes

-- a send that succeeds
sends_transmits : (old : ScriptState) (server : SocketAddr) (bytes : List ℕ) (new : ScriptState) → Sends old server bytes (Ok tt) new → Transmits old new bytes
sends_transmits old server bytes new s = ⊎_elim (λ e. absurd (cc))
    (λ t. record {
      last = record { moment = old.clock; protocol = Udp; server = server; bytes = bytes };
      sent_is = ap (λ (n : ScriptState). n.sent) t.2.others;
      moment_is = refl;
      bytes_are = refl;
    })
    s

sends_keeps : (old : ScriptState) (server : SocketAddr) (bytes : List ℕ) (result : Result (Unit {0}) LinkError) (new : ScriptState) → Sends old server bytes result new → Keeps old.script new.script
sends_keeps old server bytes result new s = ⊎_elim (λ e. subst (λ (n : ScriptState). Keeps old.script n.script) (sym e.1) (λ x h. h)) (λ t. first_keeps old.script t.0 new.script t.2.takes) s

streams_keeps : (old : ScriptState) (server : SocketAddr) (bytes : List ℕ) (deadline : ℕ) (result : Result (List ℕ) LinkError) (new : ScriptState) → Streams old server bytes deadline result new → Keeps old.script new.script
streams_keeps old server bytes deadline result new s =
    ⊎_elim (λ e. subst (λ (n : ScriptState). Keeps old.script n.script) (sym e.1) (λ x h. h)) (λ t. receives_keeps (transmit Tcp server bytes old) deadline t.0 new t.2) s

stream_message : (reply : List ℕ) (came : Result (Option (List ℕ)) LinkError) → Ok reply ≡ stream_result came → came ≡ Ok (Some reply)
stream_message reply (Ok (Some bytes)) e = cc
stream_message reply (Ok None) e = absurd (cc)
stream_message reply (Err error) e = absurd (cc)

-- ---- runs

step_keeps : (step : NetworkStep) (old new : ScriptState) → IsStep script_calls old step new → Keeps old.script new.script
step_keeps (Sent server bytes result) old new s = sends_keeps old server bytes result new s
step_keeps (Received deadline result) old new s = receives_keeps old deadline result new s
step_keeps (Streamed server bytes deadline result) old new s = streams_keeps old server bytes deadline result new s
step_keeps (ClockRead now) old new s = subst (λ (n : ScriptState). Keeps old.script n.script) (sym s.1) (λ e h. h)

run_keeps : (run : List NetworkStep) (old new : ScriptState) → IsRun script_calls old run new → Keeps old.script new.script
run_keeps [] old new r = subst (λ (n : ScriptState). Keeps old.script n.script) (sym r) (λ e h. h)
run_keeps (step ∷ run) old new r = λ e h. step_keeps step old r.0 r.1 e (run_keeps run r.0 new r.2 e h)

-- the state between two parts of a run
record Between (first : List NetworkStep) (second : List NetworkStep) (old new : ScriptState) : Type 0 where
  mid : ScriptState
  front : IsRun script_calls old first mid
  rest : IsRun script_calls mid second new

run_split : (first second : List NetworkStep) (old new : ScriptState) → IsRun script_calls old (first ++ second) new → Between first second old new
run_split [] second old new r = record { mid = old; front = refl; rest = r }
run_split (step ∷ first) second old new r =
    let b = run_split first second r.0 new r.2 in
    record { mid = b.mid; front = (r.0, r.1, b.front); rest = b.rest }

-- nothing is sent in a wait
wait_sent : (wait : List NetworkStep) (old new : ScriptState) → All IsOfWait wait → IsRun script_calls old wait new → new.sent ≡ old.sent
wait_sent [] old new w r = ap (λ (n : ScriptState). n.sent) r
wait_sent (Received deadline result ∷ wait) old new w r = wait_sent wait r.0 new (All-tail IsOfWait (Received deadline result) wait w) r.2 ∙ receives_sent old deadline result r.0 r.1
wait_sent (ClockRead now ∷ wait) old new w r = wait_sent wait r.0 new (All-tail IsOfWait (ClockRead now) wait w) r.2 ∙ ap (λ (n : ScriptState). n.sent) r.1.1
wait_sent (Sent server bytes result ∷ wait) old new w r = absurd (All-head IsOfWait (Sent server bytes result) wait w)
wait_sent (Streamed server bytes deadline result ∷ wait) old new w r = absurd (All-head IsOfWait (Streamed server bytes deadline result) wait w)

-- where the clock is read alone, nothing changes
quiet_same : (run : List NetworkStep) (old new : ScriptState) → All IsClockRead run → IsRun script_calls old run new → new ≡ old
quiet_same [] old new q r = r
quiet_same (ClockRead now ∷ run) old new q r = quiet_same run r.0 new (All-tail IsClockRead (ClockRead now) run q) r.2 ∙ r.1.1
quiet_same (Received deadline result ∷ run) old new q r = absurd (All-head IsClockRead (Received deadline result) run q)
quiet_same (Sent server bytes result ∷ run) old new q r = absurd (All-head IsClockRead (Sent server bytes result) run q)
quiet_same (Streamed server bytes deadline result ∷ run) old new q r = absurd (All-head IsClockRead (Streamed server bytes deadline result) run q)

-- ---- replies

-- a request is the last message that was sent, and a reply to it came
record BroughtTo (old new : ScriptState) (request reply : List ℕ) : Type 0 where
  transmits : Transmits old new request
  arrives : Arrives old.script reply

sent_later : (old mid new : ScriptState) (bytes : List ℕ) → Transmits old mid bytes → new.sent ≡ mid.sent → Transmits old new bytes
sent_later old mid new bytes t e = record { last = t.last; sent_is = e ∙ t.sent_is; moment_is = t.moment_is; bytes_are = t.bytes_are }

arrives_before : (old new : List TimedEvent) (reply : List ℕ) → Keeps old new → Arrives new reply → Arrives old reply
arrives_before old new reply k a = record { arrival = a.arrival; there = k a.arrival a.there; event_is = a.event_is }

datagram_brought : (server : SocketAddr) (request reply : List ℕ) (wait : List NetworkStep) (deadline : ℕ) (old new : ScriptState) → All IsOfWait wait
    → IsRun script_calls old (Sent server request (Ok tt) ∷ wait ++ Received deadline (Ok (Some reply)) ∷ []) new → BroughtTo old new request reply
datagram_brought server request reply wait deadline old new w r =
    let asked : ScriptState = r.0 in
    let b : Between wait (Received deadline (Ok (Some reply)) ∷ []) asked new = run_split wait (Received deadline (Ok (Some reply)) ∷ []) asked new r.2 in
    let came : ScriptState = b.rest.0 in
    let same : new ≡ came = b.rest.2 in
    let keeps : Keeps old.script b.mid.script = λ e h. sends_keeps old server request (Ok tt) asked r.1 e (run_keeps wait asked b.mid b.front e h) in
    record {
      transmits = sent_later old asked new request (sends_transmits old server request asked r.1)
          (ap (λ (n : ScriptState). n.sent) same ∙ receives_sent b.mid deadline (Ok (Some reply)) came b.rest.1 ∙ wait_sent wait asked b.mid w b.front);
      arrives = arrives_before old.script b.mid.script reply keeps (receives_arrival b.mid deadline reply came b.rest.1);
    }

streamed_brought : (server : SocketAddr) (request reply : List ℕ) (deadline : ℕ) (old new : ScriptState) → Streams old server request deadline (Ok reply) new → BroughtTo old new request reply
streamed_brought server request reply deadline old new s = ⊎_elim (λ e. absurd (cc))
    (λ t.
    let came : Receives (transmit Tcp server request old) deadline (Ok (Some reply)) new = subst (λ c. Receives (transmit Tcp server request old) deadline c new) (stream_message reply t.0 t.1) t.2 in
    record {
      transmits = record {
        last = record { moment = old.clock; protocol = Tcp; server = server; bytes = request };
        sent_is = receives_sent (transmit Tcp server request old) deadline (Ok (Some reply)) new came;
        moment_is = refl;
        bytes_are = refl;
      };
      arrives = receives_arrival (transmit Tcp server request old) deadline reply new came;
    })
    s

reply_brought : (server : SocketAddr) (request reply : List ℕ) (exchange : List NetworkStep) (old new : ScriptState) → BringsReply server request reply exchange → IsRun script_calls old exchange new → BroughtTo old new request reply
reply_brought server request reply exchange old new (by_datagram wait deadline w) r = datagram_brought server request reply wait deadline old new w r
reply_brought server request reply exchange old new (by_stream deadline) r =
    subst (λ (n : ScriptState). BroughtTo old n request reply) (sym r.2) (streamed_brought server request reply deadline old r.0 r.1)

ends_arrived : (key : Key) (base : ℕ) (request : List ℕ) (old new : ScriptState) (run : List NetworkStep) (message : List ℕ) → EndsWithReply key base request run message → IsRun script_calls old run new → IsAcceptedArrival key base request old new message
ends_arrived key base request old new run message e r =
    let all : IsRun script_calls old (e.before ++ (ClockRead e.signed_at ∷ e.exchange ++ ClockRead e.checked_at ∷ e.after)) new = subst (λ steps. IsRun script_calls old steps new) e.run_is r in
    let start = run_split e.before (ClockRead e.signed_at ∷ e.exchange ++ ClockRead e.checked_at ∷ e.after) old new all in
    let signing : ScriptState = start.rest.0 in
    let signing_is : signing ≡ start.mid = start.rest.1.1 in
    let signed_at_is : e.signed_at ≡ signing.clock = start.rest.1.0 ∙ ap (λ (n : ScriptState). n.clock) (sym signing_is) in
    let middle = run_split e.exchange (ClockRead e.checked_at ∷ e.after) signing new start.rest.2 in
    let checking : ScriptState = middle.rest.0 in
    let new_is : new ≡ middle.mid = quiet_same e.after checking new e.quiet middle.rest.2 ∙ middle.rest.1.1 in
    let b : BroughtTo signing new e.signed e.reply = subst (λ (n : ScriptState). BroughtTo signing n e.signed e.reply) (sym new_is) (reply_brought e.server e.signed e.reply e.exchange signing middle.mid e.brings middle.front) in
    let keeps : Keeps old.script signing.script = λ x h. run_keeps e.before old start.mid start.front x (subst (λ (n : ScriptState). Contains n.script x) signing_is h) in
    let a : Arrives old.script e.reply = arrives_before old.script signing.script e.reply keeps b.arrives in
    let checked_at_is : e.checked_at ≡ new.clock = middle.rest.1.0 ∙ ap (λ (n : ScriptState). n.clock) (sym new_is) in
    let at_moment : SignsRequest key request (time_at base b.transmits.last.moment) e.code e.signed = subst (λ t. SignsRequest key request (time_at base t) e.code e.signed) (signed_at_is ∙ sym b.transmits.moment_is) e.signs in
    record {
      before = signing.sent;
      last = b.transmits.last;
      sent_is = b.transmits.sent_is;
      code = e.code;
      signs = subst (λ bytes. SignsRequest key request (time_at base b.transmits.last.moment) e.code bytes) (sym b.transmits.bytes_are) at_moment;
      arrival = a.arrival;
      reply = e.reply;
      arrives = a.there;
      arrival_is = a.event_is;
      accepted = subst (λ t. IsAccepted key base e.code e.reply t message) checked_at_is e.accepted;
    }

pub reply_arrived : (key : Key) (base : ℕ) (m : Message) (old new : ScriptState) (response : DnsResponse) → IsSignedReply script_calls key base m old new response → IsSignedArrival key base m old new response
reply_arrived key base m old new response s = record {
  request = s.request;
  encodes = s.encodes;
  message = s.message;
  accepted = ends_arrived key base s.request old new s.replied.run s.message s.replied.ends s.replied.is_run;
  finds = s.finds;
}
