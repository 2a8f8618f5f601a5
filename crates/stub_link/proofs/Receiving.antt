-- Receives of the scripted link.
use Rattle.std.proofs.Common.{◌≡◌, ◌≢◌, ◌+◌, ◌-◌, ◌<◌, ◌≤◌, ℕ, zero, suc, List, [], ◌∷◌, ◌++◌, Bool, true, false, length, reverse, map, get_or, drop, Option, Some, None, Result, Ok, Err, IfOk, option_map, refl, sym, ap, subst, ◌∙◌, inl, inr, arith, length-append}
use Rattle.std.specs.Prelude.{◌⊎◌, slice_get}
use Rattle.std.specs.Global.{Vec}
use Rattle.std.specs.declared.alloc.AllocError.{AllocError}
use Rattle.std.specs.List.{fold}
use Rattle.std.specs.Option.{option_to_list}
use Rattle.std.proofs.lemmas.Bool.{true≢false}
use Rattle.dns_messages.specs.declared.message.Message.{Message}
use Rattle.dns_messages.specs.Grammar.{ReadsMessage}
use Rattle.dns_zone.specs.declared.transport.Transport.TheVariants.{Datagram}
use Rattle.dns_zone.specs.Serving.{sent_reply}
use Rattle.stub_link.specs.declared.link.LinkError.{LinkError}
use Rattle.stub_link.specs.declared.link.LinkError.TheVariants.{Failed, Memory}
use Rattle.stub_link.specs.declared.link.script.LinkEvent.{LinkEvent}
use Rattle.stub_link.specs.declared.link.script.LinkEvent.TheVariants.{Question, Update, Reply, Quiet, Fail}
use Rattle.stub_link.specs.declared.link.server.Server.{Server}
use Rattle.stub_link.specs.declared.link.scripted.ScriptedLink.{ScriptedLink}
use Rattle.stub_link.specs.Link.{Rises, datagram_of}
use Rattle.stub_link.specs.LinkState.{Course, Honest, Listed, LinkState, Received, ServerReply, begins_with_fail, deliver, deliver_event, deliver_named, fail, message_of, receive, receive_by, receive_listed, receive_reply, receives_in, without_first}
use Rattle.stub_link.specs.ScriptedLink.{AreRelated, FrontDecides, HasSent, IsAt, IsCourse, IsPlace, IsReceived, IsRequest, IsServerOf, ReceivesHonestly, ReceivesListed, Shows, TakesFail, UnlessMemory, bytes_of, places_of}
use Rattle.stub_link.proofs.Delivering.{AreAt, IsReplyIn, at_none, at_some, related-at}
use Rattle.stub_link.proofs.Scripts.{ReceiveLeads, course-same, events-rest, keeps-memory, keeps-update, reverse-last, sent-after, sent-course, sent-same}

-- ---- a listed script

-- the next event is taken from a script, whose next event is last
pub popped : (old new : ScriptedLink) (event : LinkEvent) (goal : Received) → old.events.items ≡ new.events.items ++ event ∷ [] → new.server ≡ old.server → new.datagrams ≡ old.datagrams → new.updates ≡ old.updates
    → ReceiveLeads old (reverse old.events.items) goal → ReceiveLeads new (event ∷ reverse new.events.items) goal
popped old new event goal last server datagrams updates r = record {
  now = r.now;
  sent = sent-same old new r.now server datagrams updates r.sent;
  same = ap (λ (es : List LinkEvent). receive_listed es r.now) (sym (reverse-last old.events.items new.events.items event last)) ∙ r.same;
}

-- a receive ends here
received-here : (old new : ScriptedLink) (received : Result (Option (List ℕ)) LinkError) (state now : LinkState) (datagram : Result (Option Message) LinkError) (left : List LinkEvent)
    → receives_in datagram (Listed left) now ≡ receive_listed (reverse old.events.items) state → IsReceived received datagram → HasSent new now → reverse new.events.items ≡ left
    → ReceivesListed old received new state
received-here old new received state now datagram left same is sent events = record {
  received_is = subst (λ (r : Received). IsReceived received r.datagram) same is;
  sent = subst (λ (r : Received). HasSent new r.state) same (sent-course new now (Listed left) sent);
  course = ap (λ (r : Received). r.state.course) (sym same) ∙ ap Listed (sym events);
}

-- at the end of the script
pub received-nothing : (old link new : ScriptedLink) (state : LinkState) → link.events.items ≡ [] → new.server ≡ link.server → new.datagrams ≡ link.datagrams → new.updates ≡ link.updates → new.events.items ≡ []
    → ReceiveLeads link (reverse link.events.items) (receive_listed (reverse old.events.items) state) → ReceivesListed old (Ok None) new state
received-nothing old link new state none server datagrams updates empty r =
    let same : receives_in (Ok None) (Listed []) r.now ≡ receive_listed (reverse old.events.items) state = ap (λ (es : List LinkEvent). receive_listed (reverse es) r.now) (sym none) ∙ r.same in
    received-here old new (Ok None) state r.now (Ok None) [] same tt (sent-same link new r.now server datagrams updates r.sent) (ap reverse empty)

pub received-quiet : (old new : ScriptedLink) (state : LinkState) → ReceiveLeads new (Quiet ∷ reverse new.events.items) (receive_listed (reverse old.events.items) state) → ReceivesListed old (Ok None) new state
received-quiet old new state r = received-here old new (Ok None) state r.now (Ok None) (reverse new.events.items) r.same tt r.sent refl

pub received-fail : (old link new : ScriptedLink) (state : LinkState) → new.server ≡ link.server → new.datagrams ≡ link.datagrams → new.updates ≡ link.updates → new.events ≡ link.events
    → ReceiveLeads link (Fail ∷ reverse link.events.items) (receive_listed (reverse old.events.items) state) → ReceivesListed old (Err Failed) new state
received-fail old link new state server datagrams updates events r =
    received-here old new (Err Failed) state r.now (Err Failed) (reverse link.events.items) r.same refl (sent-same link new r.now server datagrams updates r.sent) (ap (λ (v : Vec LinkEvent). reverse v.items) events)

-- the reply that a number names
reply-at : (link : ScriptedLink) (now : LinkState) (n : ℕ) → HasSent link now → AreAt (IsReplyIn now.limit) (slice_get (reverse (bytes_of link.server.replies)) n) (slice_get now.replies n)
reply-at link now n h = related-at (IsReplyIn now.limit) (reverse (bytes_of link.server.replies)) now.replies n h.server.replies

pub received-reply : (old new : ScriptedLink) (state : LinkState) (n : ℕ) (bytes : List ℕ) → Some bytes ≡ slice_get (reverse (bytes_of new.server.replies)) n
    → ReceiveLeads new (Reply n ∷ reverse new.events.items) (receive_listed (reverse old.events.items) state) → ReceivesListed old (Ok (Some bytes)) new state
received-reply old new state n bytes is r = go (reply-at new r.now n r.sent)
  where
    go : AreAt (IsReplyIn r.now.limit) (slice_get (reverse (bytes_of new.server.replies)) n) (slice_get r.now.replies n) → ReceivesListed old (Ok (Some bytes)) new state
    go (at_none a b) = absurd (let wrong : Some bytes ≡ None = is ∙ a in cc wrong)
    go (at_some found reply a b reads) =
        let same : bytes ≡ found = (let both : Some bytes ≡ Some found = is ∙ a in cc both) in
        let ends : receives_in (Ok (Some (message_of r.now.limit reply))) (Listed (reverse new.events.items)) r.now ≡ receive_listed (reverse old.events.items) state =
        ap (λ (x : Option ServerReply). receive_reply x (reverse new.events.items) r.now (receive_listed (reverse new.events.items) r.now)) (sym b) ∙ r.same in
        received-here old new (Ok (Some bytes)) state r.now (Ok (Some (message_of r.now.limit reply))) (reverse new.events.items) ends
        (subst (λ (bs : List ℕ). ReadsMessage bs (message_of r.now.limit reply)) (sym same) reads) r.sent refl

-- a number that names no reply is skipped
pub reply-skipped : (link : ScriptedLink) (n : ℕ) (goal : Received) → None ≡ slice_get (reverse (bytes_of link.server.replies)) n → ReceiveLeads link (Reply n ∷ reverse link.events.items) goal → ReceiveLeads link (reverse link.events.items) goal
reply-skipped link n goal is r = go (reply-at link r.now n r.sent)
  where
    go : AreAt (IsReplyIn r.now.limit) (slice_get (reverse (bytes_of link.server.replies)) n) (slice_get r.now.replies n) → ReceiveLeads link (reverse link.events.items) goal
    go (at_none a b) = record {
      now = r.now;
      sent = r.sent;
      same = ap (λ (x : Option ServerReply). receive_reply x (reverse link.events.items) r.now (receive_listed (reverse link.events.items) r.now)) (sym b) ∙ r.same;
    }
    go (at_some found reply a b reads) = absurd (let wrong : None ≡ Some found = is ∙ a in cc wrong)

-- an event that delivers
pub data IsDelivery : LinkEvent → Type 0 where
  of_question : (n : ℕ) → IsDelivery (Question n)
  of_update : (k : ℕ) → IsDelivery (Update k)

delivery-step : (event : LinkEvent) (left : List LinkEvent) (now : LinkState) → IsDelivery event → receive_listed left (deliver_event now event) ≡ receive_listed (event ∷ left) now
delivery-step event left now (of_question n) = refl
delivery-step event left now (of_update k) = refl

pub delivery-taken : (old new : ScriptedLink) (event : LinkEvent) (goal : Received) → IsDelivery event → new.events ≡ old.events → ((state : LinkState) → HasSent old state → HasSent new (deliver_event state event))
    → ReceiveLeads old (event ∷ reverse old.events.items) goal → ReceiveLeads new (reverse new.events.items) goal
delivery-taken old new event goal is events delivers r = record {
  now = deliver_event r.now event;
  sent = delivers r.now r.sent;
  same = ap (λ (v : Vec LinkEvent). receive_listed (reverse v.items) (deliver_event r.now event)) events ∙ delivery-step event (reverse old.events.items) r.now is ∙ r.same;
}

-- the front of a script decides no receive
abbrev IsOpen : ScriptedLink → Type 0
IsOpen link = (received : Result (Option (List ℕ)) LinkError) → FrontDecides (reverse link.events.items) received

-- what a receive by the rest of a script leads to, one by all of it leads to
pub record ReceiveLeft (first link : ScriptedLink) : Type 0 where
  pub leads : (state : LinkState) → HasSent first state → ReceiveLeads link (reverse link.events.items) (receive_listed (reverse first.events.items) state)
  pub rest : link ≡ record first { server = link.server; events = link.events }
  pub front : (link.events.items ≡ first.events.items) ⊎ IsOpen first

pub receive-begun : (link : ScriptedLink) → ReceiveLeft link link
receive-begun link = record { leads = λ state h. record { now = state; sent = h; same = refl }; rest = refl; front = inl refl }

-- what the next event decides, the front of the whole script decides, if it decides anything
pub front-of : (first link : ScriptedLink) (left : Vec LinkEvent) (event : LinkEvent) (received : Result (Option (List ℕ)) LinkError)
    → ReceiveLeft first link → link.events.items ≡ left.items ++ event ∷ [] → FrontDecides (event ∷ reverse left.items) received
    → FrontDecides (reverse first.events.items) received
front-of first link left event received r last here =
    elim r.front [
      | inl same ↦ subst (λ (es : List LinkEvent). FrontDecides es received)
          (sym (reverse-last link.events.items left.items event last) ∙ ap reverse same) here
      | inr h ↦ h received
    ]

-- so does the end of a script
pub front-of-end : (first link : ScriptedLink) (received : Result (Option (List ℕ)) LinkError) → ReceiveLeft first link
    → link.events.items ≡ [] → FrontDecides [] received → FrontDecides (reverse first.events.items) received
front-of-end first link received r none here =
    elim r.front [
      | inl same ↦ subst (λ (es : List LinkEvent). FrontDecides es received) (ap reverse (sym none ∙ same)) here
      | inr h ↦ h received
    ]

-- an event is taken, and nothing was done yet
pub receive-popped : (first link : ScriptedLink) (popped : Vec LinkEvent) (event : LinkEvent) → ReceiveLeft first link → link.events.items ≡ popped.items ++ event ∷ [] → (state : LinkState) → HasSent first state
    → ReceiveLeads (record link { events = popped }) (event ∷ reverse popped.items) (receive_listed (reverse first.events.items) state)
receive-popped first link popped_events event r last state h = popped link (record link { events = popped_events }) event _ last refl refl refl (r.leads state h)

pub receive-quiet : (first link : ScriptedLink) (left : Vec LinkEvent) → ReceiveLeft first link → link.events.items ≡ left.items ++ Quiet ∷ [] → (state : LinkState) → HasSent first state → ReceivesListed first (Ok None) (record link { events = left }) state
receive-quiet first link left r last state h = received-quiet first (record link { events = left }) state (receive-popped first link left Quiet r last state h)

pub receive-fail : (first link new : ScriptedLink) (left : Vec LinkEvent) → ReceiveLeft first link → link.events.items ≡ left.items ++ Fail ∷ [] → new ≡ record link { events = left; failures = new.failures } → (state : LinkState) → HasSent first state
    → ReceivesListed first (Err Failed) new state
receive-fail first link new left r last e state h =
    received-fail first (record link { events = left }) new state (ap (λ (l : ScriptedLink). l.server) e) (ap (λ (l : ScriptedLink). l.datagrams) e) (ap (λ (l : ScriptedLink). l.updates) e) (ap (λ (l : ScriptedLink). l.events) e)
    (receive-popped first link left Fail r last state h)

pub receive-reply : (first link : ScriptedLink) (left : Vec LinkEvent) (n : ℕ) (bytes : List ℕ) → ReceiveLeft first link → link.events.items ≡ left.items ++ Reply n ∷ [] → Some bytes ≡ slice_get (reverse (bytes_of link.server.replies)) n → (state : LinkState) → HasSent first state
    → ReceivesListed first (Ok (Some bytes)) (record link { events = left }) state
receive-reply first link left n bytes r last is state h = received-reply first (record link { events = left }) state n bytes is (receive-popped first link left (Reply n) r last state h)

pub receive-skipped : (first link : ScriptedLink) (left : Vec LinkEvent) (n : ℕ) → ReceiveLeft first link → link.events.items ≡ left.items ++ Reply n ∷ [] → None ≡ slice_get (reverse (bytes_of link.server.replies)) n → ReceiveLeft first (record link { events = left })
receive-skipped first link left n r last is = record {
  leads = λ state h. reply-skipped (record link { events = left }) n _ is (receive-popped first link left (Reply n) r last state h);
  rest = events-rest first link (record link { events = left }) left r.rest refl;
  front = inr (λ received. front-of first link left (Reply n) received r last tt);
}

delivery-open : (event : LinkEvent) (left : List LinkEvent) (received : Result (Option (List ℕ)) LinkError) → IsDelivery event
    → FrontDecides (event ∷ left) received
delivery-open event left received (of_question n) = tt
delivery-open event left received (of_update k) = tt

pub receive-delivered : (first link new : ScriptedLink) (left : Vec LinkEvent) (event : LinkEvent) → ReceiveLeft first link → link.events.items ≡ left.items ++ event ∷ [] → IsDelivery event
    → ((state : LinkState) → HasSent (record link { events = left }) state → HasSent new (deliver_event state event)) → new ≡ record link { server = new.server; events = left } → ReceiveLeft first new
receive-delivered first link new left event r last is delivers e = record {
  leads = λ state h. delivery-taken (record link { events = left }) new event _ is (ap (λ (l : ScriptedLink). l.events) e) delivers (receive-popped first link left event r last state h);
  rest = events-rest first link new left r.rest e;
  front = inr (λ received. front-of first link left event received r last (delivery-open event (reverse left.items) received is));
}

pub receive-ended : (first link new : ScriptedLink) → ReceiveLeft first link → link.events.items ≡ [] → new.server ≡ link.server → new.datagrams ≡ link.datagrams → new.updates ≡ link.updates → new.events.items ≡ []
    → (state : LinkState) → HasSent first state → ReceivesListed first (Ok None) new state
receive-ended first link new r none server datagrams updates empty state h = received-nothing first link new state none server datagrams updates empty (r.leads state h)

-- ---- the honest script

pub first-removed : {X : Type 0} (old new : List X) (x : X) → 0 < length old → x ≡ get_or old 0 x → new ≡ drop 1 old → old ≡ x ∷ new
first-removed [] new x some is e = absurd (omega arith)
first-removed (y ∷ ys) new x some is e = ap (λ z. z ∷ ys) (sym is) ∙ ap (λ zs. x ∷ zs) (sym e)

pub honest-nothing : (link : ScriptedLink) (state : LinkState) (under_way : List Message) → link.under_way.items ≡ [] → HasSent link state → AreRelated IsRequest (bytes_of link.under_way) under_way → ReceivesHonestly link None link state under_way
honest-nothing link state [] none h a = record { received_is = tt; sent = sent-course link state (Honest []) h; rest = []; course = refl; under_way_is = a }
honest-nothing link state (m ∷ under_way) none h a =
    absurd (subst (λ (xs : List (Vec ℕ)). AreRelated IsRequest (map (λ (b : Vec ℕ). b.items) xs) (m ∷ under_way)) none a)

-- the oldest datagram was delivered, and its reply is the newest
pub honest-delivered : (old new : ScriptedLink) (bytes : Vec ℕ) (reply : Option (List ℕ)) (state : LinkState) (under_way : List Message) → old.under_way.items ≡ bytes ∷ new.under_way.items
    → ((now : LinkState) (m : Message) → IsServerOf old.server now → IsRequest bytes.items m → IsServerOf new.server (deliver m now))
    → new.datagrams ≡ old.datagrams → new.updates ≡ old.updates → reply ≡ slice_get (reverse (bytes_of new.server.replies)) 0
    → HasSent old state → AreRelated IsRequest (bytes_of old.under_way) under_way → ReceivesHonestly old reply new state under_way
honest-delivered old new bytes reply state [] first delivers datagrams updates is h a =
    absurd (subst (λ (xs : List (Vec ℕ)). AreRelated IsRequest (map (λ (b : Vec ℕ). b.items) xs) []) first a)
honest-delivered old new bytes reply state (m ∷ under_way) first delivers datagrams updates is h a =
    go reply (related-at (IsReplyIn state.limit) (reverse (bytes_of new.server.replies)) (deliver m state).replies 0 server.replies) is
  where
    both : IsRequest bytes.items m × AreRelated IsRequest (bytes_of new.under_way) under_way
    both = subst (λ (xs : List (Vec ℕ)). AreRelated IsRequest (map (λ (b : Vec ℕ). b.items) xs) (m ∷ under_way)) first a

    server : IsServerOf new.server (deliver m state)
    server = delivers state m h.server both.0

    sent : HasSent new (deliver m state)
    sent = record {
      server = server;
      datagrams = subst (λ (v : Vec (Vec ℕ)). AreRelated IsRequest (reverse (bytes_of v)) state.datagrams) (sym datagrams) h.datagrams;
      updates = subst (λ (v : Vec (Option (Vec ℕ))). AreRelated IsPlace (places_of v) state.updates) (sym updates) h.updates;
    }

    go : (received : Option (List ℕ)) → AreAt (IsReplyIn state.limit) (slice_get (reverse (bytes_of new.server.replies)) 0) (slice_get (deliver m state).replies 0) → received ≡ slice_get (reverse (bytes_of new.server.replies)) 0
        → ReceivesHonestly old received new state (m ∷ under_way)
    go received (at_none x y) e = absurd (cc y)
    go None (at_some found r x y reads) e = absurd (let wrong : None ≡ Some found = e ∙ x in cc wrong)
    go (Some read) (at_some found r x y reads) e =
        let same : read ≡ found = (let equal : Some read ≡ Some found = e ∙ x in cc equal) in
        let first_reply : record { datagram = m; zone = state.zone; moment = state.moment } ≡ r = cc y in
        record {
          received_is = subst (λ (bs : List ℕ). ReadsMessage bs (sent_reply state.zone (Datagram state.limit) m)) (sym same) (subst (λ (s : ServerReply). ReadsMessage found (message_of state.limit s)) (sym first_reply) reads);
          sent = sent-course new (deliver m state) (Honest under_way) sent;
          rest = under_way;
          course = refl;
          under_way_is = both.1;
        }

pub honest-replied : (old new : ScriptedLink) (bytes : Vec ℕ) (replied : Result (Option (Vec ℕ)) AllocError) → old.under_way.items ≡ bytes ∷ new.under_way.items
    → ((now : LinkState) (m : Message) → IsServerOf old.server now → IsRequest bytes.items m → IsServerOf new.server (deliver m now))
    → new.datagrams ≡ old.datagrams → new.updates ≡ old.updates
    → IfOk replied (λ reply. option_map (λ (b : Vec ℕ). b.items) reply ≡ slice_get (reverse (bytes_of new.server.replies)) 0)
    → IfOk replied (λ received. (state : LinkState) → (under_way : List Message) → HasSent old state → AreRelated IsRequest (bytes_of old.under_way) under_way
    → ReceivesHonestly old (option_map (λ (b : Vec ℕ). b.items) received) new state under_way)
honest-replied old new bytes (Ok reply) first delivers datagrams updates is = λ state under_way h a.
    honest-delivered old new bytes (option_map (λ (b : Vec ℕ). b.items) reply) state under_way first delivers datagrams updates is h a
honest-replied old new bytes (Err error) first delivers datagrams updates is = tt

-- a request always has a reply
pub honest-unreplied : (old new : ScriptedLink) (bytes : Vec ℕ) (replied : Bool) (state : LinkState) (under_way : List Message) → old.under_way.items ≡ bytes ∷ new.under_way.items
    → ((now : LinkState) (m : Message) → IsServerOf old.server now → IsRequest bytes.items m → replied ≡ true) → replied ≡ false
    → HasSent old state → AreRelated IsRequest (bytes_of old.under_way) under_way → ReceivesHonestly old None new state under_way
honest-unreplied old new bytes replied state [] first always none h a = absurd (subst (λ (xs : List (Vec ℕ)). AreRelated IsRequest (map (λ (b : Vec ℕ). b.items) xs) []) first a)
honest-unreplied old new bytes replied state (m ∷ under_way) first always none h a =
    let both : IsRequest bytes.items m × AreRelated IsRequest (bytes_of new.under_way) under_way = subst (λ (xs : List (Vec ℕ)). AreRelated IsRequest (map (λ (b : Vec ℕ). b.items) xs) (m ∷ under_way)) first a in
    absurd (true≢false (sym (always state m h.server both.0) ∙ none))

-- ---- a receive

-- the honest script, with these datagrams under way
pub record IsHonestCourse (link : ScriptedLink) (course : Course) : Type 0 where
  pub under_way : List Message
  pub same : course ≡ Honest under_way
  pub related : AreRelated IsRequest (bytes_of link.under_way) under_way
  pub empty : link.events.items ≡ []

-- which script a link follows
pub honest-course : (link : ScriptedLink) (course : Course) → link.is_honest ≡ true → IsCourse link course → IsHonestCourse link course
honest-course link (Honest under_way) honest is = record { under_way = under_way; same = refl; related = is.1; empty = is.2 }
honest-course link (Listed events) honest is = absurd (true≢false (sym honest ∙ is.0))

pub listed-course : (link : ScriptedLink) (course : Course) → link.is_honest ≡ false → IsCourse link course → (course ≡ Listed (reverse link.events.items)) × (link.under_way.items ≡ [])
listed-course link (Honest under_way) honest is = absurd (true≢false (sym is.0 ∙ honest))
listed-course link (Listed events) honest is = (ap Listed (sym is.2), is.1)

honest-update : (under_way : List Message) (state : LinkState) → (receive_by (Honest under_way) state).state.is_update ≡ state.is_update
honest-update [] state = refl
honest-update (m ∷ under_way) state = refl

honest-memory : (under_way : List Message) (state : LinkState) → (receive_by (Honest under_way) state).state.out_of_memory ≡ state.out_of_memory
honest-memory [] state = refl
honest-memory (m ∷ under_way) state = refl

-- what a receive by a script is, without bytes
pub record ReceivesBy (received : Result (Option (List ℕ)) LinkError) (new : ScriptedLink) (state : LinkState) : Type 0 where
  pub datagram : Result (Option Message) LinkError
  pub after : LinkState
  pub received_is : IsReceived received datagram
  pub shows : Shows new after
  pub receive_is : receive state ≡ record { datagram = datagram; state = after }
  pub memory : after.out_of_memory ≡ state.out_of_memory

pub receive-honest : (old new : ScriptedLink) (received : Option (List ℕ)) (state : LinkState) → old.is_honest ≡ true
    → ((now : LinkState) (under_way : List Message) → HasSent old now → AreRelated IsRequest (bytes_of old.under_way) under_way → ReceivesHonestly old received new now under_way)
    → new.is_honest ≡ old.is_honest → new.events ≡ old.events → new.is_update ≡ old.is_update → Shows old state → ReceivesBy (Ok received) new state
receive-honest old new received state honest receives mode events update shown =
    let c = honest-course old state.course honest shown.course in
    let r = receives state c.under_way shown.sent c.related in
    let by : receive_by state.course state ≡ receive_by (Honest c.under_way) state = ap (λ (course : Course). receive_by course state) c.same in
    let after : LinkState = (receive_by (Honest c.under_way) state).state in
    let here : IsCourse new (Honest r.rest) = (mode ∙ honest, r.under_way_is, ap (λ (v : Vec LinkEvent). v.items) events ∙ c.empty) in
    record {
      datagram = (receive_by (Honest c.under_way) state).datagram;
      after = after;
      received_is = r.received_is;
      shows = record {
        sent = r.sent;
        course = subst (IsCourse new) (sym r.course) here;
        is_update = update ∙ shown.is_update ∙ sym (honest-update c.under_way state);
      };
      receive_is = by;
      memory = honest-memory c.under_way state;
    }

pub receive-listed : (old new : ScriptedLink) (received : Result (Option (List ℕ)) LinkError) (state : LinkState) → old.is_honest ≡ false
    → ((now : LinkState) → HasSent old now → ReceivesListed old received new now)
    → new.is_honest ≡ old.is_honest → new.under_way ≡ old.under_way → new.is_update ≡ old.is_update → Shows old state → ReceivesBy received new state
receive-listed old new received state honest receives mode way update shown =
    let c = listed-course old state.course honest shown.course in
    let events : List LinkEvent = reverse old.events.items in
    let r = receives state shown.sent in
    let by : receive_by state.course state ≡ receive_listed events state = ap (λ (course : Course). receive_by course state) c.0 in
    let after : LinkState = (receive_listed events state).state in
    let here : IsCourse new (Listed (reverse new.events.items)) = (mode ∙ honest, ap (λ (v : Vec (Vec ℕ)). v.items) way ∙ c.1, refl) in
    record {
      datagram = (receive_listed events state).datagram;
      after = after;
      received_is = r.received_is;
      shows = record {
        sent = r.sent;
        course = subst (IsCourse new) (sym r.course) here;
        is_update = update ∙ shown.is_update ∙ sym (keeps-update events state);
      };
      receive_is = by;
      memory = keeps-memory events state;
    }

-- the record, as a receive ensures it
pub receive-parts : (received : Result (Option (List ℕ)) LinkError) (new : ScriptedLink) (state : LinkState) → ReceivesBy received new state
    → (datagram : Result (Option Message) LinkError) × (after : LinkState) × IsReceived received datagram × Shows new after × (receive state ≡ record { datagram = datagram; state = after }) × (after.out_of_memory ≡ state.out_of_memory)
receive-parts received new state r = (r.datagram, r.after, r.received_is, r.shows, r.receive_is, r.memory)

pub receive-record : (received : Result (Option (List ℕ)) LinkError) (new : ScriptedLink) (state : LinkState)
    → (datagram : Result (Option Message) LinkError) × (after : LinkState) × IsReceived received datagram × Shows new after × (receive state ≡ record { datagram = datagram; state = after }) × (after.out_of_memory ≡ state.out_of_memory)
    → ReceivesBy received new state
receive-record received new state (datagram, after, is, shows, same, memory) = record { datagram = datagram; after = after; received_is = is; shows = shows; receive_is = same; memory = memory }

-- a receive by a listed script may find no memory
pub receive-listed-by : (old new : ScriptedLink) (received : Result (Option (Vec ℕ)) LinkError) → old.is_honest ≡ false
    → UnlessMemory received ((now : LinkState) → HasSent old now → ReceivesListed old (datagram_of received) new now)
    → new.is_honest ≡ old.is_honest → new.under_way ≡ old.under_way → new.is_update ≡ old.is_update
    → UnlessMemory received ((state : LinkState) → Shows old state → (datagram : Result (Option Message) LinkError) × (after : LinkState) × IsReceived (datagram_of received) datagram × Shows new after
    × (receive state ≡ record { datagram = datagram; state = after }) × (after.out_of_memory ≡ state.out_of_memory))
receive-listed-by old new (Err Memory) honest receives mode way update = tt
receive-listed-by old new (Err Failed) honest receives mode way update = λ state shown. receive-parts (Err Failed) new state (receive-listed old new (Err Failed) state honest receives mode way update shown)
receive-listed-by old new (Ok got) honest receives mode way update = λ state shown. receive-parts (datagram_of (Ok got)) new state (receive-listed old new (datagram_of (Ok got)) state honest receives mode way update shown)
