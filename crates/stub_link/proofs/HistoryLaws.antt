-- Questions leave the history as the events make it.
use Rattle.std.proofs.Common.{◌≡◌, ℕ, zero, suc, List, [], ◌∷◌, ◌++◌, Bool, true, false, length, Option, Some, None, Result, Ok, Err, refl, sym, ap, subst, ◌∙◌, inl, inr}
use Rattle.std.specs.Prelude.{◌⊎◌, ◌&&◌, slice_get, if◌then◌else◌}
use Rattle.std.specs.List.{fold}
use Rattle.std.proofs.lemmas.Bool.{true≢false}
use Rattle.dns_messages.specs.declared.op_code.OpCode.{OpCode}
use Rattle.dns_messages.specs.declared.op_code.OpCode.TheVariants as ops
use Rattle.dns_messages.specs.declared.message.Message.{Message}
use Rattle.dns_messages.specs.declared.query.Query.{Query}
use Rattle.dns_messages.specs.declared.response.DnsResponse.{DnsResponse}
use Rattle.dns_messages.specs.Sound.{is_update_code}
use Rattle.dns_zone.specs.Rows.{ZoneContent}
use Rattle.dns_zone.specs.Serving.{reply, zone_after, zone_by_op}
use Rattle.stub_lookup.specs.declared.error.NetError.TheVariants as net
use Rattle.stub_client.specs.Handle.{Outcome}
use Rattle.stub_link.specs.declared.link.LinkError.{LinkError}
use Rattle.stub_link.specs.declared.link.LinkError.TheVariants.{Failed, Memory}
use Rattle.stub_link.specs.declared.link.script.LinkEvent.{LinkEvent}
use Rattle.stub_link.specs.declared.link.script.LinkEvent.TheVariants.{Question, Update, Reply, Quiet, Fail}
use Rattle.stub_link.specs.declared.link.script.Script.{Script}
use Rattle.stub_link.specs.declared.link.script.Script.TheVariants as script
use Rattle.stub_link.specs.Link.{messages}
use Rattle.stub_link.specs.Request.{with_id}
use Rattle.stub_link.specs.LinkState.{Course, Honest, Listed, LinkState, Received, ServerReply, Version, deliver, deliver_event, deliver_named, begin_event, begins_with_fail, deliver_rest, end_event, fail, history_after, is_applied, is_no_error, link_calls, named_update, receive, receive_by, receive_listed, receive_reply, send, serve, with_under_way, without_first, Receives as ReceivesMessage, Sends as SendsMessage, Streams as StreamsMessage}
use Rattle.stub_link.specs.Wait.{Wait, WaitAfter, one_more}
use Rattle.stub_link.specs.Ask.{AfterReply, AfterSending, AfterWaiting, Ask, AskUnder, Asker, IsAsked, IsSent, draw}
use Rattle.stub_link.specs.AskState.{AskState}
use Rattle.stub_link.specs.History.{AreQuestions, HasQuestions, IsAsking, KeepsHistory, KeepsUnlessOut, Past, past_after, past_after_event, past_after_script, past_of, past_to_come}

-- ---- questions change nothing

-- a question leaves the zone and its versions
question-zone : (zone : ZoneContent) (m : Message) → m.metadata.op_code ≡ ops.Query → zone_after zone m ≡ zone
question-zone zone m q = ap (λ (code : OpCode). zone_by_op zone m code) q

question-history : (moment : ℕ) (zone : ZoneContent) (m : Message) (history : List Version) → m.metadata.op_code ≡ ops.Query → history_after moment zone m history ≡ history
question-history moment zone m history q =
    let none : is_applied zone m ≡ false = ap (λ (code : OpCode). is_update_code code && is_no_error (reply zone m).metadata.response_code) q in
    ap (λ (b : Bool). if b then history ++ record { moment = moment; rows = (zone_after zone m).rows } ∷ [] else history) none

question-past : (m : Message) (state : LinkState) → m.metadata.op_code ≡ ops.Query → past_of (deliver m state) ≡ past_of state
question-past m state q = λ i. record {
  zone = question-zone state.zone m q i;
  history = question-history state.moment state.zone m state.history q i;
  updates = state.updates;
}

named-past : (ms : List Message) (n : ℕ) (state : LinkState) → AreQuestions ms → past_of (deliver_named (slice_get ms n) state) ≡ past_of state
named-past [] n state h = refl
named-past (m ∷ ms) zero state h = question-past m state h.0
named-past (m ∷ ms) (suc n) state h = named-past ms n state h.1

update-past : (m : Option Message) (state : LinkState) → past_of (deliver_named m state) ≡ past_after state.moment (past_of state) m
update-past (Some m) state = refl
update-past None state = refl

-- ---- what is left of a script

pub event-past : (event : LinkEvent) (state : LinkState) → AreQuestions state.datagrams → past_of (deliver_event state event) ≡ past_after_event state.moment (past_of state) event
event-past (Question n) state h = named-past state.datagrams n state h
event-past (Update k) state h = update-past (named_update (slice_get state.updates k)) state
event-past (Reply n) state h = refl
event-past Quiet state h = refl
event-past Fail state h = refl

-- deliveries change neither the datagrams nor the moment
record SameEvent (old new : LinkState) : Type 0 where
  datagrams : new.datagrams ≡ old.datagrams
  moment : new.moment ≡ old.moment
  is_update : new.is_update ≡ old.is_update

named-same : (m : Option Message) (state : LinkState) → SameEvent state (deliver_named m state)
named-same (Some m) state = record { datagrams = refl; moment = refl; is_update = refl }
named-same None state = record { datagrams = refl; moment = refl; is_update = refl }

event-same : (event : LinkEvent) (state : LinkState) → SameEvent state (deliver_event state event)
event-same (Question n) state = named-same (slice_get state.datagrams n) state
event-same (Update k) state = named-same (named_update (slice_get state.updates k)) state
event-same (Reply n) state = record { datagrams = refl; moment = refl; is_update = refl }
event-same Quiet state = record { datagrams = refl; moment = refl; is_update = refl }
event-same Fail state = record { datagrams = refl; moment = refl; is_update = refl }

listed-past : (events : List LinkEvent) (state : LinkState) → AreQuestions state.datagrams → past_of (fold deliver_event state events) ≡ fold (past_after_event state.moment) (past_of state) events
listed-past [] state h = refl
listed-past (event ∷ events) state h =
    let same = event-same event state in
    listed-past events (deliver_event state event) (subst AreQuestions (sym same.datagrams) h)
    ∙ (λ i. fold (past_after_event (same.moment i)) (event-past event state h i) events)

honest-past : (under_way : List Message) (state : LinkState) → AreQuestions under_way → past_of (fold (λ now m. deliver m now) state under_way) ≡ past_of state
honest-past [] state h = refl
honest-past (m ∷ under_way) state h = honest-past under_way (deliver m state) h.1 ∙ question-past m state h.0

-- what is left of a script makes this of the past
abbrev rest_of : ℕ → Course → Past → Past
rest_of moment (Honest under_way) past = past
rest_of moment (Listed events) past = fold (past_after_event moment) past events

come-by : (course : Course) (state : LinkState) → AreQuestions state.datagrams → HasQuestions course → past_of (deliver_rest course (record state { course = Honest [] })) ≡ rest_of state.moment course (past_of state)
come-by (Honest under_way) state h q = honest-past under_way (record state { course = Honest [] }) q
come-by (Listed events) state h q = listed-past events (record state { course = Honest [] }) h

pub comes : (state : LinkState) → IsAsking state → past_to_come state ≡ rest_of state.moment state.course (past_of state)
comes state a = come-by state.course state a.datagrams a.course

-- ---- calls

questions-append : (ms : List Message) (m : Message) → AreQuestions ms → m.metadata.op_code ≡ ops.Query → AreQuestions (ms ++ m ∷ [])
questions-append [] m h q = (q, tt)
questions-append (n ∷ ms) m h q = (h.0, questions-append ms m h.1 q)

under-way-questions : (m : Message) (course : Course) → HasQuestions course → m.metadata.op_code ≡ ops.Query → HasQuestions (with_under_way m course)
under-way-questions m (Honest under_way) h q = questions-append under_way m h q
under-way-questions m (Listed events) h q = tt

under-way-rest : (moment : ℕ) (m : Message) (course : Course) (past : Past) → rest_of moment (with_under_way m course) past ≡ rest_of moment course past
under-way-rest moment m (Honest under_way) past = refl
under-way-rest moment m (Listed events) past = refl

abbrev sent_question : Message → LinkState → LinkState
sent_question m state = record state { course = with_under_way m state.course; datagrams = m ∷ state.datagrams }

question-sent : (m : Message) (state : LinkState) → state.is_update ≡ false → send m state ≡ sent_question m state
question-sent m state none = ap (λ (b : Bool). if b then record state { course = with_under_way m state.course; updates = (send m (record state { is_update = true })).updates } else sent_question m state) none

-- an equation of what is left and the past keeps what will be
kept : (old new : LinkState) → IsAsking old → IsAsking new → rest_of new.moment new.course (past_of new) ≡ rest_of old.moment old.course (past_of old) → KeepsHistory old new
kept old new a b e = record { asking = b; same = comes new b ∙ e ∙ sym (comes old a) }

pub send-keeps : (m : Message) (old new : LinkState) → m.metadata.op_code ≡ ops.Query → IsAsking old → new ≡ send m old → KeepsHistory old new
send-keeps m old new q a e =
    subst (λ (s : LinkState). KeepsHistory old s) (sym (e ∙ question-sent m old a.is_update))
    (kept old (sent_question m old) a (record { datagrams = (q, a.datagrams); course = under-way-questions m old.course a.course q; is_update = a.is_update })
    (under-way-rest old.moment m old.course (past_of old)))

first-questions : (course : Course) → HasQuestions course → HasQuestions (without_first course)
first-questions (Honest under_way) h = h
first-questions (Listed []) h = tt
first-questions (Listed (event ∷ events)) h = tt

-- `Fail` in front delivers nothing
fail-rest : (moment : ℕ) (course : Course) (past : Past) → begins_with_fail course ≡ true → rest_of moment (without_first course) past ≡ rest_of moment course past
fail-rest moment (Honest under_way) past h = absurd (true≢false (sym h))
fail-rest moment (Listed []) past h = absurd (true≢false (sym h))
fail-rest moment (Listed (Fail ∷ events)) past h = refl
fail-rest moment (Listed (Quiet ∷ events)) past h = absurd (true≢false (sym h))
fail-rest moment (Listed (Reply n ∷ events)) past h = absurd (true≢false (sym h))
fail-rest moment (Listed (Question n ∷ events)) past h = absurd (true≢false (sym h))
fail-rest moment (Listed (Update k ∷ events)) past h = absurd (true≢false (sym h))

pub fail-keeps : (old new : LinkState) → IsAsking old → begins_with_fail old.course ≡ true → new ≡ fail old → KeepsHistory old new
fail-keeps old new a front e =
    subst (λ (s : LinkState). KeepsHistory old s) (sym e)
    (kept old (fail old) a (record { datagrams = a.datagrams; course = first-questions old.course a.course; is_update = a.is_update })
    (fail-rest old.moment old.course (past_of old) front))

pub serve-keeps : (m : Message) (old new : LinkState) → m.metadata.op_code ≡ ops.Query → IsAsking old → new ≡ serve m old → KeepsHistory old new
serve-keeps m old new q a e =
    subst (λ (s : LinkState). KeepsHistory old s) (sym e)
    (kept old (serve m old) a (record { datagrams = a.datagrams; course = a.course; is_update = a.is_update })
    (ap (rest_of old.moment old.course) (question-past m old q)))

-- ---- receives

-- after a receive, what is left of the script makes the same of the past
record Received-keeps (events : List LinkEvent) (old : LinkState) (new : LinkState) : Type 0 where
  rest : rest_of new.moment new.course (past_of new) ≡ fold (past_after_event old.moment) (past_of old) events
  datagrams : new.datagrams ≡ old.datagrams
  is_update : new.is_update ≡ old.is_update
  listed : HasQuestions new.course

received-here : (event : LinkEvent) (events : List LinkEvent) (old : LinkState) → past_after_event old.moment (past_of old) event ≡ past_of old → Received-keeps (event ∷ events) old (record old { course = Listed events })
received-here event events old e = record {
  rest = ap (λ (p : Past). fold (past_after_event old.moment) p events) (sym e);
  datagrams = refl;
  is_update = refl;
  listed = tt;
}

delivered-keeps : (event : LinkEvent) (rest : List LinkEvent) (state : LinkState) → AreQuestions state.datagrams → Received-keeps rest (deliver_event state event) (receive_listed rest (deliver_event state event)).state
    → Received-keeps (event ∷ rest) state (receive_listed rest (deliver_event state event)).state
delivered-keeps event rest state q k =
    let same = event-same event state in
    record {
      rest = k.rest ∙ (λ i. fold (past_after_event (same.moment i)) (event-past event state q i) rest);
      datagrams = k.datagrams ∙ same.datagrams;
      is_update = k.is_update ∙ same.is_update;
      listed = k.listed;
    }

listed-keeps : (events : List LinkEvent) (old : LinkState) → AreQuestions old.datagrams → Received-keeps events old (receive_listed events old).state
listed-keeps [] old h = record { rest = refl; datagrams = refl; is_update = refl; listed = tt }
listed-keeps (Quiet ∷ events) old h = received-here Quiet events old refl
listed-keeps (Fail ∷ events) old h = received-here Fail events old refl
listed-keeps (Reply n ∷ events) old h = by (listed-keeps events old h) (slice_get old.replies n)
  where
    by : Received-keeps events old (receive_listed events old).state → (r : Option ServerReply) → Received-keeps (Reply n ∷ events) old (receive_reply r events old (receive_listed events old)).state
    by k (Some r) = received-here (Reply n) events old refl
    by k None =
        record { rest = k.rest; datagrams = k.datagrams; is_update = k.is_update; listed = k.listed }
listed-keeps (Question n ∷ events) old h = delivered-keeps (Question n) events old h (listed-keeps events (deliver_event old (Question n)) (subst AreQuestions (sym (event-same (Question n) old).datagrams) h))
listed-keeps (Update k ∷ events) old h = delivered-keeps (Update k) events old h (listed-keeps events (deliver_event old (Update k)) (subst AreQuestions (sym (event-same (Update k) old).datagrams) h))

receive-by-keeps : (course : Course) (old : LinkState) → old.course ≡ course → IsAsking old → HasQuestions course → KeepsHistory old (receive_by course old).state
receive-by-keeps (Honest []) old e a q =
    kept old (record old { course = Honest [] }) a (record { datagrams = a.datagrams; course = tt; is_update = a.is_update })
    (ap (λ (c : Course). rest_of old.moment c (past_of old)) (sym e))
receive-by-keeps (Honest (m ∷ under_way)) old e a q =
    kept old (record (deliver m old) { course = Honest under_way }) a (record { datagrams = a.datagrams; course = q.1; is_update = a.is_update })
    (question-past m old q.0 ∙ ap (λ (c : Course). rest_of old.moment c (past_of old)) (sym e))
receive-by-keeps (Listed events) old e a q =
    let k = listed-keeps events old a.datagrams in
    kept old (receive_listed events old).state a
    (record { datagrams = subst AreQuestions (sym k.datagrams) a.datagrams; course = k.listed; is_update = k.is_update ∙ a.is_update })
    (k.rest ∙ ap (λ (c : Course). rest_of old.moment c (past_of old)) (sym e))

pub receive-keeps : (old : LinkState) → IsAsking old → KeepsHistory old (receive old).state
receive-keeps old a = receive-by-keeps old.course old refl a a.course

-- ---- one question

keeps-same : (old : LinkState) → IsAsking old → KeepsHistory old old
keeps-same old a = record { asking = a; same = refl }

then-keeps : (old mid new : LinkState) → KeepsHistory old mid → KeepsUnlessOut mid new → KeepsUnlessOut old new
then-keeps old mid new k (inl out) = inl out
then-keeps old mid new k (inr l) = inr (record { asking = l.asking; same = l.same ∙ k.same })

-- nothing else happens
as-before : (old mid new : LinkState) → KeepsUnlessOut old mid → new ≡ mid → KeepsUnlessOut old new
as-before old mid new k e = subst (KeepsUnlessOut old) (sym e) k

sends-keep : (m : Message) (old new : LinkState) (result : Result (Unit {0}) LinkError) → m.metadata.op_code ≡ ops.Query → IsAsking old → SendsMessage old m result new → KeepsUnlessOut old new
sends-keep m old new (Ok done) q a s = inr (send-keeps m old new q a s.1)
sends-keep m old new (Err Failed) q a s = inr (fail-keeps old new a s.0 s.1)
sends-keep m old new (Err Memory) q a s = inl s

streams-keep : (m : Message) (old new : LinkState) (result : Result Message LinkError) → m.metadata.op_code ≡ ops.Query → IsAsking old → StreamsMessage old m result new → KeepsUnlessOut old new
streams-keep m old new (Ok answer) q a s = inr (serve-keeps m old new q a s.2)
streams-keep m old new (Err Failed) q a s = inr (fail-keeps old new a s.0 s.1)
streams-keep m old new (Err Memory) q a s = inl s

receives-keep : (old new : LinkState) (received : Result (Option Message) LinkError) → IsAsking old → ReceivesMessage old received new → KeepsUnlessOut old new
receives-keep old new (Ok datagram) a r = inr (subst (KeepsHistory old) (ap (λ (x : Received). x.state) r) (receive-keeps old a))
receives-keep old new (Err Failed) a r = inr (subst (KeepsHistory old) (ap (λ (x : Received). x.state) r) (receive-keeps old a))
receives-keep old new (Err Memory) a r = inl r

-- a receive that brings a datagram did not run out of memory
datagram-keeps : (old new : LinkState) (m : Message) → IsAsking old → ReceivesMessage old (Ok (Some m)) new → KeepsHistory old new
datagram-keeps old new m a r = subst (KeepsHistory old) (ap (λ (x : Received). x.state) r) (receive-keeps old a)

wait-keeps : (left id : ℕ) (question : Option Query) (old : LinkState) (dropped : ℕ) (outcome : Outcome) (new : LinkState) (total : ℕ) → IsAsking old → Wait messages link_calls left id question old dropped outcome new total → KeepsUnlessOut old new
unfolding Wait
wait-keeps zero id question old dropped outcome new total a w = as-before old old new (inr (keeps-same old a)) w.1
wait-keeps (suc left) id question old dropped outcome new total a w =
    go (λ asking v. wait-keeps left id question w.1 (one_more dropped) outcome new total asking v) w.0 w.2 w.3
  where
    mid : LinkState
    mid = w.1

    go : (IsAsking mid → Wait messages link_calls left id question mid (one_more dropped) outcome new total → KeepsUnlessOut mid new) → (received : Result (Option Message) LinkError) → ReceivesMessage old received mid → WaitAfter messages id question received mid dropped (λ more. Wait messages link_calls left id question mid more) outcome new total → KeepsUnlessOut old new
    go on (Ok (Some m)) r t =
        let k = datagram-keeps old mid m a r in
        elim t [
          | inl u ↦ as-before old mid new (inr k) u.same
          | inr u ↦ elim u [
            | inl v ↦ then-keeps old mid new k (on k.asking v.1)
            | inr v ↦ as-before old mid new (inr k) v.same
          ]
        ]
    go on (Ok None) r t = as-before old mid new (receives-keep old mid (Ok None) a r) t.1
    go on (Err Failed) r t = as-before old mid new (receives-keep old mid (Err Failed) a r) t.1
    go on (Err Memory) r t = as-before old mid new (receives-keep old mid (Err Memory) a r) t.1

link-same : (old new : AskState) → new ≡ old → new.link ≡ old.link
link-same old new e = ap (λ (s : AskState). s.link) e

sent-keeps : (m : Message) (question : Option Query) (datagram : Message) (old : AskState) (outcome : Outcome) (new : AskState) → m.metadata.op_code ≡ ops.Query → IsAsking old.link → IsSent messages link_calls m question datagram old outcome new → KeepsUnlessOut old.link new.link
sent-keeps m question datagram old outcome new q a x = go x.result (subst (λ (d : Message). SendsMessage old.link d x.result x.link) x.encodes x.sends) x.after
  where
    go : (result : Result (Unit {0}) LinkError) → SendsMessage old.link m result x.link → AfterSending messages link_calls m.metadata.id question result (record old { link = x.link }) outcome new → KeepsUnlessOut old.link new.link
    go (Ok done) s t =
        let k = send-keeps m old.link x.link q a s.1 in
        then-keeps old.link x.link new.link k
        (as-before x.link t.link new.link (wait-keeps 16 m.metadata.id question x.link old.dropped outcome t.link t.dropped k.asking t.waits) (link-same _ new t.new_is))
    go (Err Failed) s t = as-before old.link x.link new.link (sends-keep m old.link x.link (Err Failed) q a s) (link-same _ new t.1)
    go (Err Memory) s t = as-before old.link x.link new.link (sends-keep m old.link x.link (Err Memory) q a s) (link-same _ new t.1)

-- out of memory, a stream stays so
streams-out : (m : Message) (old new : LinkState) (result : Result Message LinkError) → old.out_of_memory ≡ true → StreamsMessage old m result new → new.out_of_memory ≡ true
streams-out m old new (Ok answer) out s = ap (λ (x : LinkState). x.out_of_memory) s.2 ∙ out
streams-out m old new (Err Failed) out s = ap (λ (x : LinkState). x.out_of_memory) s.1 ∙ out
streams-out m old new (Err Memory) out s = s

streams-then : (m : Message) (old mid new : LinkState) (result : Result Message LinkError) → m.metadata.op_code ≡ ops.Query → KeepsUnlessOut old mid → StreamsMessage mid m result new → KeepsUnlessOut old new
streams-then m old mid new result q (inl out) s = inl (streams-out m mid new result out s)
streams-then m old mid new result q (inr k) s = then-keeps old mid new k (streams-keep m mid new result q k.asking s)

reply-keeps : (m : Message) (q : Query) (truncated : Bool) (response : DnsResponse) (old : LinkState) (mid : AskState) (outcome : Outcome) (new : AskState) → m.metadata.op_code ≡ ops.Query → KeepsUnlessOut old mid.link
    → AfterReply messages link_calls m.metadata.id q m truncated response mid outcome new → KeepsUnlessOut old new.link
reply-keeps m q false response old mid outcome new code k t = as-before old mid.link new.link k (link-same mid new t.1)
reply-keeps m q true response old mid outcome new code k t =
    as-before old t.link new.link (streams-then m old mid.link t.link t.result code k t.streams) (link-same _ new t.new_is)

waiting-keeps : (m : Message) (q : Query) (waited : Outcome) (old : LinkState) (mid : AskState) (outcome : Outcome) (new : AskState) → m.metadata.op_code ≡ ops.Query → KeepsUnlessOut old mid.link
    → AfterWaiting messages link_calls m.metadata.id q m waited mid outcome new → KeepsUnlessOut old new.link
waiting-keeps m q (Ok response) old mid outcome new code k t = reply-keeps m q response.message.metadata.truncation response old mid outcome new code k t
waiting-keeps m q (Err error) old mid outcome new code k t = as-before old mid.link new.link k (link-same mid new t.1)

asked-keeps : (m : Message) (q : Query) (old : AskState) (outcome : Outcome) (new : AskState) → m.metadata.op_code ≡ ops.Query → IsAsking old.link → IsAsked messages link_calls m q old outcome new → KeepsUnlessOut old.link new.link
asked-keeps m q old outcome new code a x =
    let ends : AfterWaiting messages link_calls m.metadata.id q m x.waited x.mid outcome new =
    subst (λ (d : Message). AfterWaiting messages link_calls m.metadata.id q d x.waited x.mid outcome new) x.sent.encodes x.ends in
    waiting-keeps m q x.waited old.link x.mid outcome new code (sent-keeps m (Some q) x.datagram old x.waited x.mid code a x.sent) ends

under-keeps : (found : Option ℕ) (m : Message) (q : Query) (old : AskState) (outcome : Outcome) (new : AskState) → m.metadata.op_code ≡ ops.Query → IsAsking old.link → AskUnder messages link_calls found m q old outcome new → KeepsUnlessOut old.link new.link
under-keeps None m q old outcome new code a t = as-before old.link old.link new.link (inr (keeps-same old.link a)) (link-same old new t.1)
under-keeps (Some id) m q old outcome new code a t =
    elim t [
      | inl u ↦ elim u.1 [
        | inl e ↦ as-before old.link old.link new.link (inr (keeps-same old.link a)) (link-same old new e)
        | inr e ↦ as-before old.link old.link new.link (inr (keeps-same old.link a)) (link-same _ new e)
      ]
      | inr x ↦ asked-keeps (with_id id m) q (draw id q old) outcome new code a x
    ]

pub ask-keeps : (m : Message) (old : AskState) (outcome : Outcome) (new : AskState) → IsAsking old.link → Ask messages link_calls m old outcome new → KeepsUnlessOut old.link new.link
ask-keeps m old outcome new a x =
    as-before old.link x.uncounted.link new.link by (link-same _ new x.counted)
  where
    by : KeepsUnlessOut old.link x.uncounted.link
    by = elim x.asked [
      | inl u ↦ as-before old.link old.link x.uncounted.link (inr (keeps-same old.link a)) (link-same old x.uncounted u.same)
      | inr k ↦ under-keeps (slice_get old.ids (length old.sent)) m k.question old outcome x.uncounted k.asks.op_code a k.asked
    ]

-- ---- an event begins and ends

pub begin-asks : (moment : ℕ) (s : Script) (state : LinkState) → AreQuestions state.datagrams → IsAsking (begin_event moment s state)
begin-asks moment script.Honest state h = record { datagrams = h; course = tt; is_update = refl }
begin-asks moment (script.Listed events) state h = record { datagrams = h; course = tt; is_update = refl }

pub begin-past : (moment : ℕ) (s : Script) (state : LinkState) → AreQuestions state.datagrams → past_to_come (begin_event moment s state) ≡ past_after_script moment s None (past_of state)
begin-past moment script.Honest state h = comes (begin_event moment script.Honest state) (begin-asks moment script.Honest state h)
begin-past moment (script.Listed events) state h = comes (begin_event moment (script.Listed events) state) (begin-asks moment (script.Listed events) state h)
