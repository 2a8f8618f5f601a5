-- A link without bytes that ran out of memory stays so.
use Rattle.std.proofs.Common.{◌≡◌, ℕ, zero, suc, List, [], ◌∷◌, length, Bool, true, false, cond, Option, Some, None, Result, Ok, Err, refl, sym, ap, ◌∙◌, inl, inr}
use Rattle.std.specs.Prelude.{slice_get}
use Rattle.std.specs.List.{fold}
use Rattle.dns_messages.specs.declared.message.Message.{Message}
use Rattle.dns_messages.specs.declared.query.Query.{Query}
use Rattle.dns_messages.specs.declared.response.DnsResponse.{DnsResponse}
use Rattle.stub_client.specs.Handle.{Outcome}
use Rattle.stub_link.specs.declared.link.LinkError.{LinkError}
use Rattle.stub_link.specs.declared.link.LinkError.TheVariants.{Failed, Memory}
use Rattle.stub_link.specs.declared.link.script.LinkEvent.{LinkEvent}
use Rattle.stub_link.specs.declared.link.script.LinkEvent.TheVariants.{Question, Update, Reply, Quiet, Fail}
use Rattle.stub_link.specs.Ask.{AfterReply, AfterSending, AfterWaiting, Ask, AskUnder, IsAsked, IsSent, draw}
use Rattle.stub_link.specs.AskState.{AskState}
use Rattle.stub_link.specs.Link.{messages}
use Rattle.stub_link.specs.LinkState.{Course, Honest, Listed, LinkState, Received, ServerReply, deliver, deliver_event, deliver_named, deliver_rest, end_event, link_calls, named_update, receive_by, receive_listed, receive_reply, send, with_last, with_under_way, Receives as ReceivesMessage, Sends as SendsMessage, Streams as StreamsMessage}
use Rattle.stub_link.specs.Request.{with_id}
use Rattle.stub_link.specs.Wait.{Wait, WaitAfter}

abbrev pub IsOut : LinkState → Type 0
IsOut state = state.out_of_memory ≡ true

-- ---- deliveries

named-out : (m : Option Message) (state : LinkState) → (deliver_named m state).out_of_memory ≡ state.out_of_memory
named-out (Some m) state = refl
named-out None state = refl

event-out : (event : LinkEvent) (state : LinkState) → (deliver_event state event).out_of_memory ≡ state.out_of_memory
event-out (Question n) state = named-out (slice_get state.datagrams n) state
event-out (Update k) state = named-out (named_update (slice_get state.updates k)) state
event-out (Reply n) state = refl
event-out Quiet state = refl
event-out Fail state = refl

events-out : (events : List LinkEvent) (state : LinkState) → (fold deliver_event state events).out_of_memory ≡ state.out_of_memory
events-out [] state = refl
events-out (event ∷ events) state = events-out events (deliver_event state event) ∙ event-out event state

honest-out : (under_way : List Message) (state : LinkState) → (fold (λ s m. deliver m s) state under_way).out_of_memory ≡ state.out_of_memory
honest-out [] state = refl
honest-out (m ∷ under_way) state = honest-out under_way (deliver m state)

rest-out : (course : Course) (state : LinkState) → (deliver_rest course state).out_of_memory ≡ state.out_of_memory
rest-out (Honest under_way) state = honest-out under_way state
rest-out (Listed events) state = events-out events state

pub end-out : (state : LinkState) → (end_event state).out_of_memory ≡ state.out_of_memory
end-out state = rest-out state.course (record state { course = Honest [] })

-- ---- receives

reply-out-by : (o : Option ServerReply) (events : List LinkEvent) (state : LinkState)
    → (receive_listed events state).state.out_of_memory ≡ state.out_of_memory
    → (receive_reply o events state (receive_listed events state)).state.out_of_memory ≡ state.out_of_memory
reply-out-by (Some r) events state rest = refl
reply-out-by None events state rest = rest

listed-out : (events : List LinkEvent) (state : LinkState) → (receive_listed events state).state.out_of_memory ≡ state.out_of_memory
listed-out [] state = refl
listed-out (Quiet ∷ events) state = refl
listed-out (Fail ∷ events) state = refl
listed-out (Reply n ∷ events) state = reply-out-by (slice_get state.replies n) events state (listed-out events state)
listed-out (Question n ∷ events) state = listed-out events (deliver_event state (Question n)) ∙ event-out (Question n) state
listed-out (Update k ∷ events) state = listed-out events (deliver_event state (Update k)) ∙ event-out (Update k) state

receive-out-by : (course : Course) (state : LinkState) → (receive_by course state).state.out_of_memory ≡ state.out_of_memory
receive-out-by (Honest []) state = refl
receive-out-by (Honest (m ∷ under_way)) state = refl
receive-out-by (Listed events) state = listed-out events state

-- ---- calls

send-out : (m : Message) (state : LinkState) → (send m state).out_of_memory ≡ state.out_of_memory
send-out m state = by state.is_update
  where
    by : (b : Bool) → (cond b
        (record state { course = with_under_way m state.course; updates = with_last (Some m) state.updates })
        (record state { course = with_under_way m state.course; datagrams = m ∷ state.datagrams })).out_of_memory ≡ state.out_of_memory
    by true = refl
    by false = refl

sends-out : (m : Message) (old new : LinkState) (result : Result (Unit {0}) LinkError) → SendsMessage old m result new → IsOut old → IsOut new
sends-out m old new (Ok done) s h = ap (λ (l : LinkState). l.out_of_memory) s.1 ∙ send-out m old ∙ h
sends-out m old new (Err Failed) s h = ap (λ (l : LinkState). l.out_of_memory) s.1 ∙ h
sends-out m old new (Err Memory) s h = s

receives-out : (old new : LinkState) (result : Result (Option Message) LinkError) → ReceivesMessage old result new → IsOut old → IsOut new
receives-out old new (Ok datagram) r h = sym (ap (λ (x : Received). x.state.out_of_memory) r) ∙ receive-out-by old.course old ∙ h
receives-out old new (Err Failed) r h = sym (ap (λ (x : Received). x.state.out_of_memory) r) ∙ receive-out-by old.course old ∙ h
receives-out old new (Err Memory) r h = r

streams-out : (m : Message) (old new : LinkState) (result : Result Message LinkError) → StreamsMessage old m result new → IsOut old → IsOut new
streams-out m old new (Ok answer) s h = ap (λ (l : LinkState). l.out_of_memory) s.2 ∙ h
streams-out m old new (Err Failed) s h = ap (λ (l : LinkState). l.out_of_memory) s.1 ∙ h
streams-out m old new (Err Memory) s h = s

-- ---- one question

same-out : (old new : LinkState) → new ≡ old → IsOut old → IsOut new
same-out old new e h = ap (λ (l : LinkState). l.out_of_memory) e ∙ h

asks-out : (old new : AskState) → new ≡ old → IsOut old.link → IsOut new.link
asks-out old new e h = ap (λ (a : AskState). a.link.out_of_memory) e ∙ h

wait-out : (left id : ℕ) (question : Option Query) (old : LinkState) (dropped : ℕ) (outcome : Outcome) (new : LinkState) (total : ℕ)
    → Wait messages link_calls left id question old dropped outcome new total → IsOut old → IsOut new
unfolding Wait
wait-out zero id question old dropped outcome new total w h = same-out old new w.1 h
wait-out (suc left) id question old dropped outcome new total w h =
    go w.0 (receives-out old w.1 w.0 w.2 h) w.3 (λ more rest out. wait-out left id question w.1 more outcome new total rest out)
  where
    mid : LinkState
    mid = w.1

    go : (received : Result (Option Message) LinkError) → IsOut mid
        → WaitAfter messages id question received mid dropped (λ more. Wait messages link_calls left id question mid more) outcome new total
        → ((more : ℕ) → Wait messages link_calls left id question mid more outcome new total → IsOut mid → IsOut new) → IsOut new
    go (Ok (Some m)) out t next =
        elim t [
          | inl u ↦ same-out mid new u.same out
          | inr u ↦ elim u [
            | inl v ↦ next _ v.1 out
            | inr v ↦ same-out mid new v.same out
          ]
        ]
    go (Ok None) out t next = same-out mid new t.1 out
    go (Err Failed) out t next = same-out mid new t.1 out
    go (Err Memory) out t next = same-out mid new t.1 out

after-out : (id : ℕ) (question : Option Query) (result : Result (Unit {0}) LinkError) (mid : AskState) (outcome : Outcome) (new : AskState)
    → AfterSending messages link_calls id question result mid outcome new → IsOut mid.link → IsOut new.link
after-out id question (Ok done) mid outcome new a h =
    ap (λ (x : AskState). x.link.out_of_memory) a.new_is ∙ wait-out 16 id question mid.link mid.dropped outcome a.link a.dropped a.waits h
after-out id question (Err Failed) mid outcome new a h = asks-out mid new a.1 h
after-out id question (Err Memory) mid outcome new a h = asks-out mid new a.1 h

sent-out : (m : Message) (question : Option Query) (datagram : Message) (old : AskState) (outcome : Outcome) (new : AskState)
    → IsSent messages link_calls m question datagram old outcome new → IsOut old.link → IsOut new.link
sent-out m question datagram old outcome new x h =
    after-out m.metadata.id question x.result (record old { link = x.link }) outcome new x.after (sends-out datagram old.link x.link x.result x.sends h)

reply-out : (id : ℕ) (q : Query) (datagram : Message) (truncated : Bool) (response : DnsResponse) (mid : AskState) (outcome : Outcome) (new : AskState)
    → AfterReply messages link_calls id q datagram truncated response mid outcome new → IsOut mid.link → IsOut new.link
reply-out id q datagram false response mid outcome new t h = asks-out mid new t.1 h
reply-out id q datagram true response mid outcome new t h =
    ap (λ (x : AskState). x.link.out_of_memory) t.new_is ∙ streams-out datagram mid.link t.link t.result t.streams h

waiting-out : (id : ℕ) (q : Query) (datagram : Message) (waited : Outcome) (mid : AskState) (outcome : Outcome) (new : AskState)
    → AfterWaiting messages link_calls id q datagram waited mid outcome new → IsOut mid.link → IsOut new.link
waiting-out id q datagram (Ok response) mid outcome new t h =
    reply-out id q datagram response.message.metadata.truncation response mid outcome new t h
waiting-out id q datagram (Err error) mid outcome new t h = asks-out mid new t.1 h

asked-out : (m : Message) (q : Query) (old : AskState) (outcome : Outcome) (new : AskState) → IsAsked messages link_calls m q old outcome new
    → IsOut old.link → IsOut new.link
asked-out m q old outcome new a h =
    waiting-out m.metadata.id q a.datagram a.waited a.mid outcome new a.ends (sent-out m (Some q) a.datagram old a.waited a.mid a.sent h)

under-out : (found : Option ℕ) (m : Message) (q : Query) (old : AskState) (outcome : Outcome) (new : AskState)
    → AskUnder messages link_calls found m q old outcome new → IsOut old.link → IsOut new.link
under-out None m q old outcome new t h = asks-out old new t.1 h
under-out (Some id) m q old outcome new t h =
    elim t [
      | inl u ↦ elim u.1 [
        | inl e ↦ asks-out old new e h
        | inr e ↦ ap (λ (a : AskState). a.link.out_of_memory) e ∙ h
      ]
      | inr a ↦ asked-out (with_id id m) q (draw id q old) outcome new a h
    ]

pub ask-out : (m : Message) (old : AskState) (outcome : Outcome) (new : AskState) → Ask messages link_calls m old outcome new → IsOut old.link
    → IsOut new.link
ask-out m old outcome new a h =
    ap (λ (x : AskState). x.link.out_of_memory) a.counted
    ∙ elim a.asked [
      | inl u ↦ asks-out old a.uncounted u.same h
      | inr k ↦ under-out (slice_get old.ids (length old.sent)) m k.question old outcome a.uncounted k.asked h
    ]
