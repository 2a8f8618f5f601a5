-- The history of a zone is decided by the events: event by event, an update event too.
use Rattle.std.proofs.Common.{◌≡◌, ◌-◌, ◌++◌, Bool, true, false, inl, inr, ℕ, zero, suc, List, [], ◌∷◌, Option, Some, None, Result, Ok, Err, length, take, refl, sym, ap, subst, ◌∙◌, arith, length-append}
use Rattle.std.specs.Prelude.{◌⊎◌, slice_get, if◌then◌else◌}
use Rattle.std.specs.List.{fold}
use Rattle.std.proofs.lemmas.Bool.{true≢false}
use Rattle.std.proofs.Math.Seq.{take-append_seam}
use Rattle.dns_messages.specs.declared.message.Message.{Message}
use Rattle.dns_messages.specs.declared.query.Query.{Query}
use Rattle.dns_messages.specs.declared.response_code.ResponseCode.{ResponseCode}
use Rattle.stub_lookup.specs.declared.error.NetError.{NetError}
use Rattle.stub_lookup.specs.declared.error.NetError.TheVariants as net
use Rattle.stub_client.specs.Handle.{Outcome}
use Rattle.stub_link.specs.declared.link.LinkError.{LinkError}
use Rattle.stub_link.specs.declared.link.LinkError.TheVariants.{Failed, Memory}
use Rattle.stub_link.specs.declared.link.script.LinkEvent.{LinkEvent}
use Rattle.stub_link.specs.declared.link.script.LinkEvent.TheVariants.{Question, Update, Reply, Quiet, Fail}
use Rattle.stub_link.specs.declared.link.script.Script.{Script}
use Rattle.stub_link.specs.declared.link.script.Script.TheVariants as script
use Rattle.stub_link.specs.Link.{messages}
use Rattle.stub_link.specs.LinkState.{Course, Honest, Listed, LinkState, Received, ServerReply, begin_update, begins_with_fail, course_of, deliver, deliver_event, deliver_named, deliver_rest, end_event, fail, link_calls, named_update, receive, receive_by, receive_listed, receive_reply, send, with_last, with_under_way, without_first, Receives as ReceivesMessage, Sends as SendsMessage}
use Rattle.stub_link.specs.Wait.{Wait, WaitAfter, one_more}
use Rattle.stub_link.specs.Ask.{AfterSending}
use Rattle.stub_link.specs.Update.{SendUpdate}
use Rattle.stub_link.specs.AskState.{AskState}
use Rattle.stub_link.specs.History.{AreQuestions, Past, past_after, past_after_event, past_after_script, past_after_update, past_of, past_to_come}
use Rattle.stub_link.proofs.HistoryLaws.{event-past}
use Rattle.stub_run.proofs.OutOfMemory.{IsOut}

-- ---- what is left of a script

-- What is left of a script makes this of the past. What is under way is delivered, whatever it is.
abbrev pub rest_of : ℕ → Course → Past → Past
rest_of moment (Honest under_way) past = fold (λ p m. past_after moment p (Some m)) past under_way
rest_of moment (Listed events) past = fold (past_after_event moment) past events

named-datagrams : (m : Option Message) (state : LinkState) → (deliver_named m state).datagrams ≡ state.datagrams
named-datagrams None state = refl
named-datagrams (Some m) state = refl

named-moment : (m : Option Message) (state : LinkState) → (deliver_named m state).moment ≡ state.moment
named-moment None state = refl
named-moment (Some m) state = refl

event-datagrams : (e : LinkEvent) (state : LinkState) → (deliver_event state e).datagrams ≡ state.datagrams
event-datagrams (Question n) state = named-datagrams (slice_get state.datagrams n) state
event-datagrams (Update k) state = named-datagrams (named_update (slice_get state.updates k)) state
event-datagrams (Reply n) state = refl
event-datagrams Quiet state = refl
event-datagrams Fail state = refl

event-moment : (e : LinkEvent) (state : LinkState) → (deliver_event state e).moment ≡ state.moment
event-moment (Question n) state = named-moment (slice_get state.datagrams n) state
event-moment (Update k) state = named-moment (named_update (slice_get state.updates k)) state
event-moment (Reply n) state = refl
event-moment Quiet state = refl
event-moment Fail state = refl

-- a delivery leaves questions
event-questions : (e : LinkEvent) (state : LinkState) → AreQuestions state.datagrams → AreQuestions (deliver_event state e).datagrams
event-questions e state h = subst AreQuestions (sym (event-datagrams e state)) h

honest-past : (under_way : List Message) (state : LinkState)
    → past_of (fold (λ now m. deliver m now) state under_way)
    ≡ fold (λ p m. past_after state.moment p (Some m)) (past_of state) under_way
honest-past [] state = refl
honest-past (m ∷ under_way) state = honest-past under_way (deliver m state)

listed-past : (events : List LinkEvent) (state : LinkState) → AreQuestions state.datagrams
    → past_of (fold deliver_event state events) ≡ fold (past_after_event state.moment) (past_of state) events
listed-past [] state h = refl
listed-past (e ∷ events) state h =
    listed-past events (deliver_event state e) (event-questions e state h)
    ∙ (λ i. fold (past_after_event (event-moment e state i)) (event-past e state h i) events)

come-by : (course : Course) (state : LinkState) → AreQuestions state.datagrams
    → past_of (deliver_rest course (record state { course = Honest [] })) ≡ rest_of state.moment course (past_of state)
come-by (Honest under_way) state h = honest-past under_way (record state { course = Honest [] })
come-by (Listed events) state h = listed-past events (record state { course = Honest [] }) h

comes : (state : LinkState) → AreQuestions state.datagrams → past_to_come state ≡ rest_of state.moment state.course (past_of state)
comes state h = come-by state.course state h

-- ---- the datagrams when an event ends

honest-datagrams : (under_way : List Message) (state : LinkState)
    → (fold (λ now m. deliver m now) state under_way).datagrams ≡ state.datagrams
honest-datagrams [] state = refl
honest-datagrams (m ∷ under_way) state = honest-datagrams under_way (deliver m state)

listed-datagrams : (events : List LinkEvent) (state : LinkState) → (fold deliver_event state events).datagrams ≡ state.datagrams
listed-datagrams [] state = refl
listed-datagrams (e ∷ events) state = listed-datagrams events (deliver_event state e) ∙ event-datagrams e state

rest-datagrams : (course : Course) (state : LinkState) → (deliver_rest course state).datagrams ≡ state.datagrams
rest-datagrams (Honest under_way) state = honest-datagrams under_way state
rest-datagrams (Listed events) state = listed-datagrams events state

pub end-questions : (state : LinkState) → AreQuestions state.datagrams → AreQuestions (end_event state).datagrams
end-questions state h =
    subst AreQuestions (sym (rest-datagrams state.course (record state { course = Honest [] }))) h

-- ---- receives

-- what will be stays, and all datagrams but those of updates ask questions
pub record KeepsComing (old new : LinkState) : Type 0 where
  pub questions : AreQuestions new.datagrams
  pub same : past_to_come new ≡ past_to_come old

abbrev pub KeepsComingUnlessOut : LinkState → LinkState → Type 0
KeepsComingUnlessOut old new = IsOut new ⊎ KeepsComing old new

keeps-coming : (old new : LinkState) → AreQuestions old.datagrams → AreQuestions new.datagrams
    → rest_of new.moment new.course (past_of new) ≡ rest_of old.moment old.course (past_of old) → KeepsComing old new
keeps-coming old new h q same = record { questions = q; same = comes new q ∙ same ∙ sym (comes old h) }

-- what is left after a receive makes the same of the past
record IsLeft (events : List LinkEvent) (old new : LinkState) : Type 0 where
  rest : rest_of new.moment new.course (past_of new) ≡ fold (past_after_event old.moment) (past_of old) events
  datagrams : new.datagrams ≡ old.datagrams

left-here : (e : LinkEvent) (events : List LinkEvent) (old : LinkState)
    → past_after_event old.moment (past_of old) e ≡ past_of old → IsLeft (e ∷ events) old (record old { course = Listed events })
left-here e events old same = record {
  rest = ap (λ (p : Past). fold (past_after_event old.moment) p events) (sym same);
  datagrams = refl;
}

left-after : (e : LinkEvent) (events : List LinkEvent) (old new : LinkState) → AreQuestions old.datagrams
    → IsLeft events (deliver_event old e) new → IsLeft (e ∷ events) old new
left-after e events old new h left = record {
  rest = left.rest ∙ (λ i. fold (past_after_event (event-moment e old i)) (event-past e old h i) events);
  datagrams = left.datagrams ∙ event-datagrams e old;
}

listed-left : (events : List LinkEvent) (old : LinkState) → AreQuestions old.datagrams
    → IsLeft events old (receive_listed events old).state
listed-left [] old h = record { rest = refl; datagrams = refl }
listed-left (Quiet ∷ events) old h = left-here Quiet events old refl
listed-left (Fail ∷ events) old h = left-here Fail events old refl
listed-left (Reply n ∷ events) old h = by (slice_get old.replies n) (listed-left events old h)
  where
    by : (r : Option ServerReply) → IsLeft events old (receive_listed events old).state
        → IsLeft (Reply n ∷ events) old (receive_reply r events old (receive_listed events old)).state
    by (Some r) left = left-here (Reply n) events old refl
    by None left = record { rest = left.rest; datagrams = left.datagrams }
listed-left (Question n ∷ events) old h =
    left-after (Question n) events old (receive_listed events (deliver_event old (Question n))).state h
    (listed-left events (deliver_event old (Question n)) (event-questions (Question n) old h))
listed-left (Update k ∷ events) old h =
    left-after (Update k) events old (receive_listed events (deliver_event old (Update k))).state h
    (listed-left events (deliver_event old (Update k)) (event-questions (Update k) old h))

receive-by-keeps : (course : Course) (old : LinkState) → old.course ≡ course → AreQuestions old.datagrams
    → KeepsComing old (receive_by course old).state
receive-by-keeps (Honest []) old is h =
    keeps-coming old (record old { course = Honest [] }) h h
    (ap (λ (c : Course). rest_of old.moment c (past_of old)) (sym is))
receive-by-keeps (Honest (m ∷ under_way)) old is h =
    keeps-coming old (record (deliver m old) { course = Honest under_way }) h h
    (ap (λ (c : Course). rest_of old.moment c (past_of old)) (sym is))
receive-by-keeps (Listed events) old is h =
    let left = listed-left events old h in
    keeps-coming old (receive_listed events old).state h (subst AreQuestions (sym left.datagrams) h)
    (left.rest ∙ ap (λ (c : Course). rest_of old.moment c (past_of old)) (sym is))

receive-keeps : (old : LinkState) (datagram : Result (Option Message) LinkError) (new : LinkState)
    → receive old ≡ record { datagram = datagram; state = new } → AreQuestions old.datagrams → KeepsComing old new
receive-keeps old datagram new r h =
    subst (λ (s : LinkState). KeepsComing old s) (ap (λ (x : Received). x.state) r) (receive-by-keeps old.course old refl h)

-- ---- waiting

stays-coming : (old mid new : LinkState) → KeepsComing old mid → new ≡ mid → KeepsComing old new
stays-coming old mid new k same = subst (λ (s : LinkState). KeepsComing old s) (sym same) k

then-coming : (old mid new : LinkState) → KeepsComing old mid → KeepsComingUnlessOut mid new → KeepsComingUnlessOut old new
then-coming old mid new k (inl out) = inl out
then-coming old mid new k (inr rest) = inr (record { questions = rest.questions; same = rest.same ∙ k.same })

wait-keeps : (left id : ℕ) (question : Option Query) (old : LinkState) (dropped : ℕ) (outcome : Outcome) (new : LinkState) (total : ℕ)
    → AreQuestions old.datagrams → Wait messages link_calls left id question old dropped outcome new total
    → KeepsComingUnlessOut old new
unfolding Wait
wait-keeps zero id question old dropped outcome new total h w =
    inr (stays-coming old old new (record { questions = h; same = refl }) w.1)
wait-keeps (suc left) id question old dropped outcome new total h w =
    go w.0 w.2 w.3 (λ questions t. wait-keeps left id question w.1 (one_more dropped) outcome new total questions t)
  where
    mid : LinkState
    mid = w.1

    go : (received : Result (Option Message) LinkError) → ReceivesMessage old received mid
        → WaitAfter messages id question received mid dropped (λ more. Wait messages link_calls left id question mid more) outcome new
        total
        → (AreQuestions mid.datagrams → Wait messages link_calls left id question mid (one_more dropped) outcome new total
        → KeepsComingUnlessOut mid new)
        → KeepsComingUnlessOut old new
    go (Ok (Some m)) r t rest =
        let k = receive-keeps old (Ok (Some m)) mid r h in
        elim t [
          | inl u ↦ inr (stays-coming old mid new k u.same)
          | inr u ↦ elim u [
            | inl v ↦ then-coming old mid new k (rest k.questions v.1)
            | inr v ↦ inr (stays-coming old mid new k v.same)
          ]
        ]
    go (Ok None) r t rest = inr (stays-coming old mid new (receive-keeps old (Ok None) mid r h) t.1)
    go (Err Failed) r t rest = inr (stays-coming old mid new (receive-keeps old (Err Failed) mid r h) t.1)
    go (Err Memory) r t rest = inl (ap (λ (l : LinkState). l.out_of_memory) t.1 ∙ r)

-- ---- an update event

-- `Fail` in front delivers nothing
fail-rest : (moment : ℕ) (course : Course) (past : Past) → begins_with_fail course ≡ true
    → rest_of moment (without_first course) past ≡ rest_of moment course past
fail-rest moment (Honest under_way) past h = absurd (true≢false (sym h))
fail-rest moment (Listed []) past h = absurd (true≢false (sym h))
fail-rest moment (Listed (Fail ∷ events)) past h = refl
fail-rest moment (Listed (Quiet ∷ events)) past h = absurd (true≢false (sym h))
fail-rest moment (Listed (Reply n ∷ events)) past h = absurd (true≢false (sym h))
fail-rest moment (Listed (Question n ∷ events)) past h = absurd (true≢false (sym h))
fail-rest moment (Listed (Update k ∷ events)) past h = absurd (true≢false (sym h))

-- what a script delivers that sends nothing, and one that sends an update
without-update : (moment : ℕ) (s : Script) (past : Past) → rest_of moment (course_of s) past ≡ past_after_script moment s None past
without-update moment script.Honest past = refl
without-update moment (script.Listed events) past = refl

with-update : (moment : ℕ) (s : Script) (m : Message) (past : Past)
    → rest_of moment (with_under_way m (course_of s)) past ≡ past_after_script moment s (Some m) past
with-update moment script.Honest m past = refl
with-update moment (script.Listed events) m past = refl

last-place : (m : Message) (updates : List (Option Message)) → with_last (Some m) (updates ++ None ∷ []) ≡ updates ++ Some m ∷ []
last-place m updates =
    let count : length (updates ++ None ∷ []) - 1 ≡ length updates = omega (arith, length-append updates (None ∷ [])) in
    ap (λ (n : ℕ). take n (updates ++ None ∷ []) ++ Some m ∷ []) count
    ∙ ap (λ (us : List (Option Message)). us ++ Some m ∷ []) (take-append_seam updates (None ∷ []))

-- the past with the place of an update
abbrev placed : Past → Option Message → Past
placed past sent = record past { updates = past.updates ++ sent ∷ [] }

-- which datagram an update event has, by whether its sending fails
abbrev sent-of : Bool → Option Message → Option Message
sent-of fails update = if fails then None else update

none-sent : (fails : Bool) → sent-of fails None ≡ None
none-sent true = refl
none-sent false = refl

-- what an update event comes to, from the past before it: its datagram, if there was memory for it
pub record ComesTo (moment : ℕ) (s : Script) (past : Past) (update : Option Message) (new : LinkState) : Type 0 where
  pub questions : AreQuestions new.datagrams
  pub past_is : past_to_come new ≡ past_after_update moment s (Some update) past

comes-to : (moment : ℕ) (s : Script) (past : Past) (update : Option Message) (sent new : LinkState)
    → past_to_come sent ≡ past_after_update moment s (Some update) past → KeepsComing sent new → ComesTo moment s past update new
comes-to moment s past update sent new first k = record { questions = k.questions; past_is = k.same ∙ first }

module _ (moment : ℕ) (s : Script) (before : LinkState) (h : AreQuestions before.datagrams) where
  abbrev begun : LinkState
  begun = begin_update moment s before

  abbrev past : Past
  past = past_of before

  -- no datagram: there was no memory for it
  unsent : past_to_come begun ≡ past_after_update moment s (Some None) past
  unsent =
      comes begun h ∙ without-update moment s (placed past None)
      ∙ ap (λ (sent : Option Message). past_after_script moment s sent (placed past sent)) (sym (none-sent (begins_with_fail (course_of s))))

  -- the sending failed
  failed : (m : Message) → begins_with_fail (course_of s) ≡ true → past_to_come (fail begun) ≡ past_after_update moment s (Some (Some m)) past
  failed m front =
      comes (fail begun) h ∙ fail-rest moment (course_of s) (placed past None) front ∙ without-update moment s (placed past None)
      ∙ ap (λ (fails : Bool). past_after_script moment s (sent-of fails (Some m)) (placed past (sent-of fails (Some m))))
      (sym front)

  -- the datagram was sent
  sent : (m : Message) → begins_with_fail (course_of s) ≡ false → past_to_come (send m begun) ≡ past_after_update moment s (Some (Some m)) past
  sent m front =
      comes (send m begun) h
      ∙ ap (λ (us : List (Option Message)). rest_of moment (with_under_way m (course_of s)) (record past { updates = us }))
      (last-place m past.updates)
      ∙ with-update moment s m (placed past (Some m))
      ∙ ap (λ (fails : Bool). past_after_script moment s (sent-of fails (Some m)) (placed past (sent-of fails (Some m))))
      (sym front)

  -- an update event that is sent, or fails
  sent-comes : (m : Message) (id : ℕ) (result : Result (Unit {0}) LinkError) (link : LinkState) (old : AskState) (outcome : Outcome)
      (new : AskState) → SendsMessage begun m result link
      → AfterSending messages link_calls id None result (record old { link = link }) outcome new
      → IsOut new.link ⊎ ComesTo moment s past (Some m) new.link
  sent-comes m id (Ok done) link old outcome new sends a =
      let first : past_to_come link ≡ past_after_update moment s (Some (Some m)) past =
      ap (λ (l : LinkState). past_to_come l) sends.1 ∙ sent m sends.0 in
      let questions : AreQuestions link.datagrams = subst (λ (l : LinkState). AreQuestions l.datagrams) (sym sends.1) h in
      let same = ap (λ (x : AskState). x.link) a.new_is in
      elim (wait-keeps 16 id None link old.dropped outcome a.link a.dropped questions a.waits) [
        | inl out ↦ inl (ap (λ (l : LinkState). l.out_of_memory) same ∙ out)
        | inr k ↦ inr (comes-to moment s past (Some m) link new.link first (stays-coming link a.link new.link k same))
      ]
  sent-comes m id (Err Failed) link old outcome new sends a =
      let same : new.link ≡ fail begun = ap (λ (x : AskState). x.link) a.1 ∙ sends.1 in
      inr (comes-to moment s past (Some m) (fail begun) new.link (failed m sends.0)
      (stays-coming (fail begun) (fail begun) new.link (record { questions = h; same = refl }) same))
  sent-comes m id (Err Memory) link old outcome new sends a = inl (ap (λ (x : AskState). x.link.out_of_memory) a.1 ∙ sends)

  pub update-comes : (m : Message) (old : AskState) (reply : Result ResponseCode NetError) (new : AskState) → old.link ≡ begun
      → SendUpdate messages link_calls m old reply new
      → IsOut new.link ⊎ ((update : Option Message)
      × ((update ≡ Some m) ⊎ ((update ≡ None) × (reply ≡ Err net.Memory))) × ComesTo moment s past update new.link)
  update-comes m old reply new is a =
      let same = ap (λ (x : AskState). x.link) a.counted in
      elim a.sent [
        | inl u ↦ inr (
          None,
          inr (refl, u.0),
          comes-to moment s past None begun new.link unsent
              (stays-coming begun begun new.link (record { questions = h; same = refl })
              (same ∙ ap (λ (x : AskState). x.link) u.1 ∙ is)),
        )
        | inr k ↦
            let x = k.sent in
            let sends : SendsMessage begun m x.result x.link =
            subst (λ (l : LinkState). SendsMessage l m x.result x.link) is
            (subst (λ (d : Message). SendsMessage old.link d x.result x.link) x.encodes x.sends) in
            elim (sent-comes m m.metadata.id x.result x.link old k.waited a.uncounted sends x.after) [
              | inl out ↦ inl (ap (λ (l : LinkState). l.out_of_memory) same ∙ out)
              | inr c ↦ inr (Some m, inl refl, subst (λ (l : LinkState). ComesTo moment s past (Some m) l) (sym same) c)
            ]
      ]
