-- A handle over the scripted link goes where the states without bytes go.
use Rattle.std.proofs.Common.{◌≡◌, ◌≤◌, ℕ, zero, suc, List, [], ◌∷◌, ◌++◌, Bool, true, false, length, Option, Some, None, Result, Ok, Err, refl, sym, ap, subst, ◌∙◌, inl, inr}
use Rattle.std.specs.Prelude.{◌⊎◌, slice_get}
use Rattle.std.proofs.lemmas.Bool.{true≢false}
use Rattle.dns_messages.specs.declared.message_type.MessageType.TheVariants as kinds
use Rattle.dns_messages.specs.declared.query.Query.{Query}
use Rattle.dns_messages.specs.declared.message.Message.{Message}
use Rattle.dns_messages.specs.declared.response.DnsResponse.{DnsResponse}
use Rattle.dns_messages.specs.declared.response_code.ResponseCode.{ResponseCode}
use Rattle.dns_messages.specs.Grammar.{ReadsMessage}
use Rattle.stub_lookup.specs.declared.error.NetError.{NetError}
use Rattle.stub_lookup.specs.declared.error.NetError.TheVariants as net
use Rattle.stub_client.specs.Handle.{Outcome}
use Rattle.stub_client.specs.declared.request.DnsRequest.{DnsRequest}
use Rattle.stub_link.specs.declared.link.LinkError.{LinkError}
use Rattle.stub_link.specs.declared.link.LinkError.TheVariants.{Failed, Memory}
use Rattle.stub_link.specs.declared.link.scripted.ScriptedLink.{ScriptedLink}
use Rattle.stub_link.specs.declared.wire_handle.WireHandle.{WireHandle}
use Rattle.stub_link.specs.Link.{Decodes, IsResponse, messages, wire}
use Rattle.stub_link.specs.Request.{IsQuestion, IsUpdate, with_id}
use Rattle.stub_link.specs.Reply.{has_reply_header, matches}
use Rattle.stub_link.specs.Wait.{IsOther, IsReply, IsUndecoded, Wait, WaitAfter, WaitAfterDatagram, one_more}
use Rattle.stub_link.specs.Ask.{AfterReply, AfterSending, AfterStream, AfterWaiting, Ask, AskUnder, Asker, IsAsked, IsAwaited, IsSent, IsStreamReply, IsStreamed, IsSupported, IsUnsupported, count_fault, draw, faults_after, matching, other, questions_after, undecoded, unreadable}
use Rattle.stub_link.specs.Update.{IsUpdateSent, SendUpdate, code_of}
use Rattle.stub_link.specs.LinkState.{LinkState, link_calls, Receives as ReceivesMessage, Sends as SendsMessage, Streams as StreamsMessage}
use Rattle.stub_link.specs.AskState.{AskState, AskZone, UpdateZone}
use Rattle.stub_link.specs.ScriptedLink.{IsAt, IsReceived, IsRequest, IsStreamed as IsStreamedAs, KeepsMemory, Receives, Sends, Streams}
use Rattle.stub_link.specs.WireHandle.{Asks, IsIn, SendsUpdate, ShowsAsker, asker_of}
use Rattle.stub_link.proofs.MemoryLaws.{IsOut, ask-out, byte_calls, update-out}
use Rattle.stub_link.proofs.ReplyHeaders.{PeeksHeaders, same-header}

-- bytes decode to at most one message
abbrev pub OneWay : Type 0
OneWay = (bytes : List ℕ) (a b : Message) → ReadsMessage bytes a → ReadsMessage bytes b → a ≡ b

-- a call that does not report it does not run out of memory
lives-after : {X : Type 0} (old : ScriptedLink) (x : X) (new : ScriptedLink) → KeepsMemory old (Ok x) new → old.out_of_memory ≡ false → new.out_of_memory ≡ false
lives-after {X} old x new k lives = by new.out_of_memory refl
  where
    by : (b : Bool) → new.out_of_memory ≡ b → new.out_of_memory ≡ false
    by false e = e
    by true e = absurd (let wrong : Ok x ≡ Err Memory = k.reported lives e in cc wrong)

out-only : {P : Type 0} (link : ScriptedLink) → link.out_of_memory ≡ false → IsOut link → P
out-only link lives out = absurd (true≢false (sym out ∙ lives))

same-out : (new mid : ScriptedLink) → new ≡ mid → IsOut new → IsOut mid
same-out new mid e out = ap (λ (l : ScriptedLink). l.out_of_memory) (sym e) ∙ out

at-same : (state : LinkState) (new mid : ScriptedLink) → new ≡ mid → IsAt mid state → IsAt new state
at-same state new mid e at = subst (λ (l : ScriptedLink). IsAt l state) (sym e) at

-- ---- waiting

-- waiting without bytes leads to a state in which the link is
pub record Waited (left id : ℕ) (question : Option Query) (state : LinkState) (dropped : ℕ) (outcome : Outcome) (new : ScriptedLink) (total : ℕ) : Type 0 where
  pub after : LinkState
  pub at : IsAt new after
  pub reported : IsOut new → outcome ≡ Err net.Memory
  pub waits : Wait messages link_calls left id question state dropped outcome after total

response-carried : OneWay → (bytes : List ℕ) (m : Message) (response : DnsResponse) → ReadsMessage bytes m → Decodes bytes response → IsResponse m response
response-carried one_way bytes m response reads d = record {
  message = one_way bytes response.message m d.message reads;
  reads = subst (λ (kept : List ℕ). ReadsMessage kept response.message) (sym d.buffer) d.message;
}

reply-carried : OneWay → (id : ℕ) (question : Option Query) (bytes : List ℕ) (m : Message) (mid new : ScriptedLink) (state : LinkState) (dropped : ℕ) (outcome : Outcome) (total : ℕ)
    → ReadsMessage bytes m → IsReply wire id question bytes mid dropped outcome new total → IsReply messages id question m state dropped outcome state total
reply-carried one_way id question bytes m mid new state dropped outcome total reads r = record {
  response = r.response;
  decodes = response-carried one_way bytes m r.response reads r.decodes;
  matching = r.matching;
  outcome_is = r.outcome_is;
  same = refl;
  count = r.count;
}

other-carried : (id : ℕ) (question : Option Query) (bytes : List ℕ) (m : Message) → ReadsMessage bytes m → IsOther wire id question bytes → IsOther messages id question m
other-carried id question bytes m reads others n same = subst (λ (k : Message). matches id question k ≡ false) (sym same) (others m reads)

undecoded-carried : PeeksHeaders → (id : ℕ) (question : Option Query) (bytes : List ℕ) (m : Message) (mid new : ScriptedLink) (state : LinkState) (dropped : ℕ) (outcome : Outcome) (total : ℕ)
    → ReadsMessage bytes m → IsUndecoded wire id question bytes mid dropped outcome new total → IsUndecoded messages id question m state dropped outcome state total
undecoded-carried peeks id question bytes m mid new state dropped outcome total reads u = record {
  headed = sym (same-header peeks id question bytes m reads) ∙ u.headed;
  outcome_is = u.outcome_is;
  same = refl;
  count = u.count;
}

abbrev Rest : Type 1
Rest = ℕ → Outcome → ScriptedLink → ℕ → Type 0

wait-one : {outcome : Outcome} {new : ScriptedLink} {total : ℕ} (left id : ℕ) (question : Option Query) (state : LinkState) (dropped : ℕ) (datagram : Result (Option Message) LinkError) (after : LinkState)
    → ReceivesMessage state datagram after → IsAt new after → (IsOut new → outcome ≡ Err net.Memory)
    → WaitAfter messages id question datagram after dropped (λ more. Wait messages link_calls left id question after more) outcome after total
    → Waited (suc left) id question state dropped outcome new total
unfolding Wait
wait-one left id question state dropped datagram after r at reported w = record { after = after; at = at; reported = reported; waits = (datagram, after, r, w) }

wait-more : {outcome : Outcome} {new : ScriptedLink} {total : ℕ} (left id : ℕ) (question : Option Query) (state : LinkState) (dropped : ℕ) (m : Message) (after : LinkState)
    → ReceivesMessage state (Ok (Some m)) after → IsOther messages id question m → Waited left id question after (one_more dropped) outcome new total
    → Waited (suc left) id question state dropped outcome new total
unfolding Wait
wait-more left id question state dropped m after r others w = record { after = w.after; at = w.at; reported = w.reported; waits = (Ok (Some m), after, r, inr (inl (others, w.waits))) }

pub wait-carried : OneWay → PeeksHeaders → (left id : ℕ) (question : Option Query) (old : ScriptedLink) (state : LinkState) (dropped : ℕ) (outcome : Outcome) (new : ScriptedLink) (total : ℕ)
    → IsAt old state → old.out_of_memory ≡ false → Wait wire byte_calls left id question old dropped outcome new total → Waited left id question state dropped outcome new total
unfolding Wait
wait-carried one_way peeks zero id question old state dropped outcome new total at lives w = record {
  after = state;
  at = at-same state new old w.1 at;
  reported = λ out. out-only old lives (same-out new old w.1 out);
  waits = (w.0, refl, w.2);
}
wait-carried one_way peeks (suc left) id question old state dropped outcome new total at lives w =
    let r : Receives old w.0 w.1 = w.2 in
    let s = r.states state at lives in
    go (λ after there alive v. wait-carried one_way peeks left id question w.1 after (one_more dropped) outcome new total there alive v) w.0 s.0 r.memory s.1 s.2.0 s.2.1 s.2.2 w.3
  where
    mid : ScriptedLink
    mid = w.1

    go : ((after : LinkState) → IsAt mid after → mid.out_of_memory ≡ false → Wait wire byte_calls left id question mid (one_more dropped) outcome new total → Waited left id question after (one_more dropped) outcome new total)
        → (received : Result (Option (List ℕ)) LinkError) (datagram : Result (Option Message) LinkError) → KeepsMemory old received mid → IsReceived received datagram → (after : LinkState) → IsAt mid after → ReceivesMessage state datagram after
        → WaitAfter wire id question received mid dropped (λ more. Wait wire byte_calls left id question mid more) outcome new total
        → Waited (suc left) id question state dropped outcome new total
    go on (Ok (Some bytes)) (Ok (Some m)) k reads after there r t =
        let alive : mid.out_of_memory ≡ false = lives-after old (Some bytes) mid k lives in
        elim t [
          | inl reply ↦ wait-one left id question state dropped (Ok (Some m)) after r (at-same after new mid reply.same there) (λ out. out-only mid alive (same-out new mid reply.same out))
              (inl (reply-carried one_way id question bytes m mid new after dropped outcome total reads reply))
          | inr u ↦ elim u [
            | inl v ↦ wait-more left id question state dropped m after r (other-carried id question bytes m reads v.0)
                (on after there alive v.1)
            | inr v ↦ wait-one left id question state dropped (Ok (Some m)) after r (at-same after new mid v.same there) (λ out. v.outcome_is)
                (inr (inr (undecoded-carried peeks id question bytes m mid new after dropped outcome total reads v)))
          ]
        ]
    go on (Ok (Some bytes)) (Ok None) k reads after there r t = absurd reads
    go on (Ok (Some bytes)) (Err error) k reads after there r t = absurd reads
    go on (Ok None) (Ok (Some m)) k reads after there r t = absurd reads
    go on (Ok None) (Err error) k reads after there r t = absurd reads
    go on (Err error) (Ok datagram) k reads after there r t = absurd reads
    go on (Ok None) (Ok None) k reads after there r t =
        let alive : mid.out_of_memory ≡ false = lives-after old None mid k lives in
        wait-one left id question state dropped (Ok None) after r (at-same after new mid t.1 there) (λ out. out-only mid alive (same-out new mid t.1 out)) (t.0, refl, t.2)
    go on (Err Failed) (Err Failed) k reads after there r t =
        wait-one left id question state dropped (Err Failed) after r (at-same after new mid t.1 there)
        (λ out. absurd (let wrong : Err Failed ≡ Err Memory = k.reported lives (same-out new mid t.1 out) in cc wrong)) (t.0, refl, t.2)
    go on (Err Memory) (Err Memory) k reads after there r t =
        wait-one left id question state dropped (Err Memory) after r (at-same after new mid t.1 there) (λ out. t.0) (t.0, refl, t.2)
    go on (Err Failed) (Err Memory) k reads after there r t = absurd (cc reads)
    go on (Err Memory) (Err Failed) k reads after there r t = absurd (cc reads)

-- ---- askers

-- the askers have the same ids and counts
record SameAsker (asker : Asker ScriptedLink) (state : AskState) : Type 0 where
  ids : asker.ids ≡ state.ids
  sent : asker.sent ≡ state.sent
  dropped : asker.dropped ≡ state.dropped
  faults : asker.faults ≡ state.faults
  questions : asker.questions ≡ state.questions

-- an asker is in a state, with memory left
record IsLive (asker : Asker ScriptedLink) (state : AskState) : Type 0 where
  at : IsAt asker.link state.link
  same : SameAsker asker state
  lives : asker.link.out_of_memory ≡ false

-- a relation leads to a state in which the asker is; if memory ran out, that is reported
record Carried (new : Asker ScriptedLink) (reports : Type 0) (leads : AskState → Type 0) : Type 0 where
  after : AskState
  at : IsAt new.link after.link
  same : SameAsker new after
  reported : IsOut new.link → reports
  led : leads after

carried-same : {leads : AskState → Type 0} {reports : Type 0} (old new : Asker ScriptedLink) (state : AskState) → IsLive old state → new ≡ old → leads state → Carried new reports leads
carried-same {leads} {reports} old new state live e led = record {
  after = state;
  at = at-same state.link new.link old.link (ap (λ (a : Asker ScriptedLink). a.link) e) live.at;
  same = subst (λ (a : Asker ScriptedLink). SameAsker a state) (sym e) live.same;
  reported = λ out. out-only old.link live.lives (same-out new.link old.link (ap (λ (a : Asker ScriptedLink). a.link) e) out);
  led = led;
}

-- ---- sending, and the reply

awaited-carried : OneWay → PeeksHeaders → (id : ℕ) (question : Option Query) (mid : Asker ScriptedLink) (state : AskState) (outcome : Outcome) (new : Asker ScriptedLink)
    → IsLive mid state → IsAwaited wire byte_calls id question mid outcome new → Carried new (outcome ≡ Err net.Memory) (λ after. IsAwaited messages link_calls id question state outcome after)
awaited-carried one_way peeks id question mid state outcome new live a =
    let start : Wait wire byte_calls 16 id question mid.link state.dropped outcome a.link a.dropped =
    subst (λ (n : ℕ). Wait wire byte_calls 16 id question mid.link n outcome a.link a.dropped) live.same.dropped a.waits in
    let w = wait-carried one_way peeks 16 id question mid.link state.link state.dropped outcome a.link a.dropped live.at live.lives start in
    record {
      after = record state { link = w.after; dropped = a.dropped; questions = questions_after question state.questions };
      at = at-same w.after new.link a.link (ap (λ (x : Asker ScriptedLink). x.link) a.new_is) w.at;
      same = record {
        ids = ap (λ (x : Asker ScriptedLink). x.ids) a.new_is ∙ live.same.ids;
        sent = ap (λ (x : Asker ScriptedLink). x.sent) a.new_is ∙ live.same.sent;
        dropped = ap (λ (x : Asker ScriptedLink). x.dropped) a.new_is;
        faults = ap (λ (x : Asker ScriptedLink). x.faults) a.new_is ∙ live.same.faults;
        questions = ap (λ (x : Asker ScriptedLink). x.questions) a.new_is ∙ ap (questions_after question) live.same.questions;
      };
      reported = λ out. w.reported (same-out new.link a.link (ap (λ (x : Asker ScriptedLink). x.link) a.new_is) out);
      led = record { link = w.after; dropped = a.dropped; waits = w.waits; new_is = refl };
    }

-- the asker with another link, in a state with another link
with-link : (old : Asker ScriptedLink) (state : AskState) (link : ScriptedLink) (after : LinkState) → SameAsker old state → SameAsker (record old { link = link }) (record state { link = after })
with-link old state link after s = record { ids = s.ids; sent = s.sent; dropped = s.dropped; faults = s.faults; questions = s.questions }

-- nothing else happened
carried-link : {leads : AskState → Type 0} {reports : Type 0} (old new : Asker ScriptedLink) (state : AskState) (link : ScriptedLink) (after : LinkState) → SameAsker old state → new ≡ record old { link = link } → IsAt link after
    → (IsOut link → reports) → leads (record state { link = after }) → Carried new reports leads
carried-link {leads} {reports} old new state link after s e at reported led = record {
  after = record state { link = after };
  at = at-same after new.link link (ap (λ (a : Asker ScriptedLink). a.link) e) at;
  same = subst (λ (a : Asker ScriptedLink). SameAsker a (record state { link = after })) (sym e) (with-link old state link after s);
  reported = λ out. reported (same-out new.link link (ap (λ (a : Asker ScriptedLink). a.link) e) out);
  led = led;
}

sent-carried : OneWay → PeeksHeaders → (m : Message) (question : Option Query) (bytes : List ℕ) (old : Asker ScriptedLink) (state : AskState) (outcome : Outcome) (new : Asker ScriptedLink)
    → m.metadata.message_type ≡ kinds.Query → IsLive old state → IsSent wire byte_calls m question bytes old outcome new
    → Carried new (outcome ≡ Err net.Memory) (λ after. IsSent messages link_calls m question m state outcome after)
sent-carried one_way peeks m question bytes old state outcome new kind live x =
    let sends : Sends old.link bytes x.result x.link = x.sends in
    let s = sends.states state.link m live.at live.lives (record { decodes = x.encodes.decodes; kind = kind }) in
    go x.result sends.memory s.0 s.1 s.2 x.after
  where
    go : (result : Result (Unit {0}) LinkError) → KeepsMemory old.link result x.link → (after : LinkState) → IsAt x.link after → SendsMessage state.link m result after
        → AfterSending wire byte_calls m.metadata.id question result (record old { link = x.link }) outcome new
        → Carried new (outcome ≡ Err net.Memory) (λ last. IsSent messages link_calls m question m state outcome last)
    go (Ok done) k after at s t =
        let c = awaited-carried one_way peeks m.metadata.id question (record old { link = x.link }) (record state { link = after }) outcome new
        (record { at = at; same = with-link old state x.link after live.same; lives = lives-after old.link done x.link k live.lives }) t in
        record {
          after = c.after;
          at = c.at;
          same = c.same;
          reported = c.reported;
          led = record { encodes = refl; result = Ok done; link = after; sends = s; after = c.led };
        }
    go (Err Failed) k after at s t =
        carried-link old new state x.link after live.same t.1 at (λ out. absurd (let wrong : Err Failed ≡ Err Memory = k.reported live.lives out in cc wrong))
        (record { encodes = refl; result = Err Failed; link = after; sends = s; after = (t.0, refl) })
    go (Err Memory) k after at s t =
        carried-link old new state x.link after live.same t.1 at (λ out. t.0)
        (record { encodes = refl; result = Err Memory; link = after; sends = s; after = (t.0, refl) })

-- ---- the stream

stream-reply-carried : OneWay → (id : ℕ) (q : Query) (bytes : List ℕ) (m : Message) (outcome : Outcome) → ReadsMessage bytes m → IsStreamReply wire id q bytes outcome → IsStreamReply messages id q m outcome
stream-reply-carried one_way id q bytes m outcome reads (matching response decodes match is) =
    matching response (response-carried one_way bytes m response reads decodes) match is
stream-reply-carried one_way id q bytes m outcome reads (unreadable none is) = absurd (none m reads)
stream-reply-carried one_way id q bytes m outcome reads (other n decodes match is) = other n (one_way bytes n m decodes reads) match is
stream-reply-carried one_way id q bytes m outcome reads (undecoded is) = undecoded is

streamed-carried : OneWay → (m : Message) (q : Query) (bytes : List ℕ) (mid : Asker ScriptedLink) (state : AskState) (outcome : Outcome) (new : Asker ScriptedLink)
    → IsRequest bytes m → length bytes ≤ 65535 → IsLive mid state → IsStreamed wire byte_calls m.metadata.id q bytes mid outcome new
    → Carried new (outcome ≡ Err net.Memory) (λ after. IsStreamed messages link_calls m.metadata.id q m state outcome after)
streamed-carried one_way m q bytes mid state outcome new request within live x =
    let streams : Streams mid.link bytes x.result x.link = x.streams in
    let s = streams.states state.link m live.at live.lives request within in
    go x.result s.0 streams.memory s.1 s.2.0 s.2.1 s.2.2 x.after
  where
    go : (result : Result (List ℕ) LinkError) (answer : Result Message LinkError) → KeepsMemory mid.link result x.link → IsStreamedAs result answer → (after : LinkState) → IsAt x.link after → StreamsMessage state.link m answer after
        → AfterStream wire m.metadata.id q result outcome
        → Carried new (outcome ≡ Err net.Memory) (λ last. IsStreamed messages link_calls m.metadata.id q m state outcome last)
    go (Ok reply) (Ok n) k reads after at s t =
        carried-link mid new state x.link after live.same x.new_is at (λ out. out-only x.link (lives-after mid.link reply x.link k live.lives) out)
        (record { result = Ok n; link = after; streams = s; after = stream-reply-carried one_way m.metadata.id q reply n outcome reads t; new_is = refl })
    go (Ok reply) (Err error) k reads after at s t = absurd reads
    go (Err error) (Ok n) k reads after at s t = absurd reads
    go (Err Failed) (Err Failed) k reads after at s t =
        carried-link mid new state x.link after live.same x.new_is at (λ out. absurd (let wrong : Err Failed ≡ Err Memory = k.reported live.lives out in cc wrong))
        (record { result = Err Failed; link = after; streams = s; after = t; new_is = refl })
    go (Err Memory) (Err Memory) k reads after at s t =
        carried-link mid new state x.link after live.same x.new_is at (λ out. t)
        (record { result = Err Memory; link = after; streams = s; after = t; new_is = refl })
    go (Err Failed) (Err Memory) k reads after at s t = absurd (cc reads)
    go (Err Memory) (Err Failed) k reads after at s t = absurd (cc reads)

-- ---- one question

abbrev Ends : Message → Query → Outcome → AskState → Outcome → AskState → Type 0
Ends m q waited state outcome after = AfterWaiting messages link_calls m.metadata.id q m waited state outcome after

reply-ends : OneWay → (m : Message) (q : Query) (bytes : List ℕ) (truncated : Bool) (response : DnsResponse) (mid : Asker ScriptedLink) (state : AskState) (outcome : Outcome) (new : Asker ScriptedLink)
    → IsRequest bytes m → length bytes ≤ 65535 → IsLive mid state → AfterReply wire byte_calls m.metadata.id q bytes truncated response mid outcome new
    → Carried new (outcome ≡ Err net.Memory) (λ after. AfterReply messages link_calls m.metadata.id q m truncated response state outcome after)
reply-ends one_way m q bytes false response mid state outcome new request within live t = carried-same mid new state live t.1 (t.0, refl)
reply-ends one_way m q bytes true response mid state outcome new request within live t = streamed-carried one_way m q bytes mid state outcome new request within live t

waiting-ends : OneWay → (m : Message) (q : Query) (bytes : List ℕ) (waited : Outcome) (mid : Asker ScriptedLink) (state : AskState) (outcome : Outcome) (new : Asker ScriptedLink)
    → IsRequest bytes m → length bytes ≤ 65535 → IsAt mid.link state.link → SameAsker mid state → (IsOut mid.link → waited ≡ Err net.Memory) → AfterWaiting wire byte_calls m.metadata.id q bytes waited mid outcome new
    → Carried new (outcome ≡ Err net.Memory) (λ after. Ends m q waited state outcome after)
waiting-ends one_way m q bytes (Ok response) mid state outcome new request within at same reported t =
    reply-ends one_way m q bytes response.message.metadata.truncation response mid state outcome new request within (record { at = at; same = same; lives = by mid.link.out_of_memory refl }) t
  where
    by : (b : Bool) → mid.link.out_of_memory ≡ b → mid.link.out_of_memory ≡ false
    by false e = e
    by true e = absurd (let wrong : Ok response ≡ Err net.Memory = reported e in cc wrong)
waiting-ends one_way m q bytes (Err error) mid state outcome new request within at same reported t = record {
  after = state;
  at = at-same state.link new.link mid.link (ap (λ (a : Asker ScriptedLink). a.link) t.1) at;
  same = subst (λ (a : Asker ScriptedLink). SameAsker a state) (sym t.1) same;
  reported = λ out. t.0 ∙ reported (same-out new.link mid.link (ap (λ (a : Asker ScriptedLink). a.link) t.1) out);
  led = (t.0, refl);
}

asked-carried : OneWay → PeeksHeaders → (m : Message) (q : Query) (old : Asker ScriptedLink) (state : AskState) (outcome : Outcome) (new : Asker ScriptedLink)
    → m.metadata.message_type ≡ kinds.Query → IsLive old state → IsAsked wire byte_calls m q old outcome new
    → Carried new (outcome ≡ Err net.Memory) (λ after. IsAsked messages link_calls m q state outcome after)
asked-carried one_way peeks m q old state outcome new kind live a =
    let s = sent-carried one_way peeks m (Some q) a.datagram old state a.waited a.mid kind live a.sent in
    let request : IsRequest a.datagram m = record { decodes = a.sent.encodes.decodes; kind = kind } in
    let e = waiting-ends one_way m q a.datagram a.waited a.mid s.after outcome new request a.sent.encodes.within s.at s.same s.reported a.ends in
    record {
      after = e.after;
      at = e.at;
      same = e.same;
      reported = e.reported;
      led = record { datagram = m; waited = a.waited; mid = s.after; sent = s.led; ends = e.led };
    }

draw-live : (id : ℕ) (q : Query) (old : Asker ScriptedLink) (state : AskState) → IsLive old state → IsLive (draw id q old) (draw id q state)
draw-live id q old state live = record {
  at = live.at;
  same = record {
    ids = live.same.ids;
    sent = ap (λ (sent : List (ℕ × Query)). sent ++ (id, q) ∷ []) live.same.sent;
    dropped = live.same.dropped;
    faults = live.same.faults;
    questions = live.same.questions;
  };
  lives = live.lives;
}

under-carried : OneWay → PeeksHeaders → (found : Option ℕ) (m : Message) (q : Query) (old : Asker ScriptedLink) (state : AskState) (outcome : Outcome) (new : Asker ScriptedLink)
    → m.metadata.message_type ≡ kinds.Query → IsLive old state → AskUnder wire byte_calls found m q old outcome new
    → Carried new (outcome ≡ Err net.Memory) (λ after. AskUnder messages link_calls found m q state outcome after)
under-carried one_way peeks None m q old state outcome new kind live t = carried-same old new state live t.1 (t.0, refl)
under-carried one_way peeks (Some id) m q old state outcome new kind live t =
    elim t [
      | inl u ↦ elim u.1 [
        | inl e ↦ carried-same old new state live e (inl (u.0, inl refl))
        | inr e ↦ carried-same (draw id q old) new (draw id q state) (draw-live id q old state live) e (inl (u.0, inr refl))
      ]
      | inr a ↦
          let c = asked-carried one_way peeks (with_id id m) q (draw id q old) (draw id q state) outcome new kind (draw-live id q old state live) a in
          record { after = c.after; at = c.at; same = c.same; reported = c.reported; led = inr c.led }
    ]

supported-carried : OneWay → PeeksHeaders → (m : Message) (old : Asker ScriptedLink) (state : AskState) (outcome : Outcome) (new : Asker ScriptedLink)
    → IsLive old state → IsSupported wire byte_calls m old outcome new
    → Carried new (outcome ≡ Err net.Memory) (λ after. IsSupported messages link_calls m state outcome after)
supported-carried one_way peeks m old state outcome new live k =
    let next : slice_get old.ids (length old.sent) ≡ slice_get state.ids (length state.sent) = λ i. slice_get (live.same.ids i) (length (live.same.sent i)) in
    let asked : AskUnder wire byte_calls (slice_get state.ids (length state.sent)) m k.question old outcome new =
    subst (λ (found : Option ℕ). AskUnder wire byte_calls found m k.question old outcome new) next k.asked in
    let c = under-carried one_way peeks (slice_get state.ids (length state.sent)) m k.question old state outcome new k.asks.kind live asked in
    record { after = c.after; at = c.at; same = c.same; reported = c.reported; led = record { question = k.question; asks = k.asks; asked = c.led } }

-- the fault is counted
counted : {X : Type 0} {reports : Type 0} {leads : AskState → Type 0} (reply : Result X NetError) (uncounted new : Asker ScriptedLink) → Carried uncounted reports leads → new ≡ count_fault reply uncounted
    → Carried new reports (λ after. (before : AskState) × leads before × (after ≡ count_fault reply before))
counted {X} {reports} {leads} reply uncounted new c e = record {
  after = count_fault reply c.after;
  at = at-same c.after.link new.link uncounted.link (ap (λ (a : Asker ScriptedLink). a.link) e) c.at;
  same = subst (λ (a : Asker ScriptedLink). SameAsker a (count_fault reply c.after)) (sym e) (record {
    ids = c.same.ids;
    sent = c.same.sent;
    dropped = c.same.dropped;
    faults = ap (faults_after reply) c.same.faults;
    questions = c.same.questions;
  });
  reported = λ out. c.reported (same-out new.link uncounted.link (ap (λ (a : Asker ScriptedLink). a.link) e) out);
  led = (c.after, c.led, refl);
}

ask-carried : OneWay → PeeksHeaders → (m : Message) (old : Asker ScriptedLink) (state : AskState) (outcome : Outcome) (new : Asker ScriptedLink) → IsLive old state → Ask wire byte_calls m old outcome new
    → Carried new (outcome ≡ Err net.Memory) (λ after. Ask messages link_calls m state outcome after)
ask-carried one_way peeks m old state outcome new live a =
    let c = counted outcome a.uncounted new by a.counted in
    record { after = c.after; at = c.at; same = c.same; reported = c.reported; led = record { uncounted = c.led.0; asked = c.led.1; counted = c.led.2 } }
  where
    by : Carried a.uncounted (outcome ≡ Err net.Memory) (λ after. IsUnsupported m state outcome after ⊎ IsSupported messages link_calls m state outcome after)
    by = elim a.asked [
      | inl u ↦ carried-same old a.uncounted state live u.same (inl (record { no_question = u.no_question; outcome_is = u.outcome_is; same = refl }))
      | inr k ↦ let c = supported-carried one_way peeks m old state outcome a.uncounted live k in
          record { after = c.after; at = c.at; same = c.same; reported = c.reported; led = inr c.led }
    ]

-- ---- updates

update-carried : OneWay → PeeksHeaders → (m : Message) (old : Asker ScriptedLink) (state : AskState) (reply : Result ResponseCode NetError) (new : Asker ScriptedLink)
    → m.metadata.message_type ≡ kinds.Query → IsLive old state → SendUpdate wire byte_calls m old reply new
    → Carried new (Unit {0}) (λ after. SendUpdate messages link_calls m state reply after)
update-carried one_way peeks m old state reply new kind live a =
    let c = counted reply a.uncounted new by a.counted in
    record { after = c.after; at = c.at; same = c.same; reported = c.reported; led = record { uncounted = c.led.0; sent = c.led.1; counted = c.led.2 } }
  where
    by : Carried a.uncounted (Unit {0}) (λ after. ((reply ≡ Err net.Memory) × (after ≡ state)) ⊎ IsUpdateSent messages link_calls m state reply after)
    by = elim a.sent [
      | inl u ↦ carried-same old a.uncounted state live u.1 (inl (u.0, refl))
      | inr k ↦ let c = sent-carried one_way peeks m None k.datagram old state k.waited a.uncounted kind live k.sent in
          record { after = c.after; at = c.at; same = c.same; reported = λ out. tt; led = inr (record { datagram = m; waited = k.waited; sent = c.led; reply_is = k.reply_is }) }
    ]

-- ---- handles

live-handle : (old : WireHandle ScriptedLink) (state : AskState) → IsIn old state → old.link.out_of_memory ≡ false → IsLive (asker_of old) state
live-handle old state i lives =
    let s = i.shows lives in
    record {
      at = i.link;
      same = record { ids = s.ids; sent = s.sent; dropped = s.dropped; faults = s.faults; questions = s.questions };
      lives = lives;
    }

in-state : {reports : Type 0} {leads : AskState → Type 0} (new : WireHandle ScriptedLink) (c : Carried (asker_of new) reports leads) → IsIn new c.after
in-state new c = record {
  link = c.at;
  shows = λ lives. record { ids = c.same.ids; sent = c.same.sent; dropped = c.same.dropped; faults = c.same.faults; questions = c.same.questions };
}

-- out of memory, nothing else is known
out-state : (new : WireHandle ScriptedLink) (state : AskState) → IsOut new.link → IsIn new (record state { link = record state.link { out_of_memory = true } })
out-state new state out = record {
  link = record { memory = out; shows = λ lives. absurd (true≢false (sym out ∙ lives)) };
  shows = λ lives. absurd (true≢false (sym out ∙ lives));
}

pub ask-leads : OneWay → PeeksHeaders → (failure_count : ScriptedLink → ℕ) (old new : WireHandle ScriptedLink) (state : AskState) (request : DnsRequest) (now : ℕ) (outcome : Outcome) → IsIn old state
    → Asks (λ link bytes result after. Sends link bytes result after) (λ link received after. Receives link received after) (λ link bytes result after. Streams link bytes result after) failure_count old request now outcome new
    → (after : AskState) × IsIn new after × AskZone state request now outcome after
ask-leads one_way peeks failure_count old new state request now outcome i a = by old.link.out_of_memory refl
  where
    by : (b : Bool) → old.link.out_of_memory ≡ b → (after : AskState) × IsIn new after × AskZone state request now outcome after
    by false lives =
        let c = ask-carried one_way peeks request.message (asker_of old) state outcome (asker_of new) (live-handle old state i lives) a.ask in
        (c.after, in-state new c, inr c.led)
    by true out =
        (record state { link = record state.link { out_of_memory = true } }, out-state new state (ask-out request.message (asker_of old) outcome (asker_of new) a.ask out), inl (sym i.link.memory ∙ out, refl))

pub update-leads : OneWay → PeeksHeaders → (failure_count : ScriptedLink → ℕ) (old new : WireHandle ScriptedLink) (state : AskState) (m : Message) (reply : Result ResponseCode NetError) → IsIn old state → IsUpdate m
    → SendsUpdate (λ link bytes result after. Sends link bytes result after) (λ link received after. Receives link received after) (λ link bytes result after. Streams link bytes result after) failure_count old m reply new
    → (after : AskState) × IsIn new after × UpdateZone state m reply after
update-leads one_way peeks failure_count old new state m reply i u a = by old.link.out_of_memory refl
  where
    by : (b : Bool) → old.link.out_of_memory ≡ b → (after : AskState) × IsIn new after × UpdateZone state m reply after
    by false lives =
        let c = update-carried one_way peeks m (asker_of old) state reply (asker_of new) u.update.kind (live-handle old state i lives) a.sent in
        (c.after, in-state new c, inr c.led)
    by true out =
        (record state { link = record state.link { out_of_memory = true } }, out-state new state (update-out m (asker_of old) reply (asker_of new) a.sent out), inl (sym i.link.memory ∙ out, refl))
