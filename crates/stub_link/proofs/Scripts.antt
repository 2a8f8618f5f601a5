-- Scripted links: what was sent, and what is left of a script.
use Rattle.std.proofs.Common.{◌≡◌, ◌≢◌, ◌+◌, ◌-◌, ◌<◌, ◌≤◌, ◌||◌, ℕ, zero, suc, List, [], ◌∷◌, ◌++◌, Bool, true, false, length, reverse, map, take, Option, Some, None, Result, Ok, Err, IsOk, OnOk, OnErr, option_map, refl, sym, ap, subst, ◌∙◌, inl, inr, arith, length-append}
use Rattle.std.specs.Prelude.{◌⊎◌, slice_get}
use Rattle.std.specs.Global.{Vec}
use Rattle.std.specs.declared.alloc.AllocError.{AllocError}
use Rattle.std.specs.List.{fold, list_any}
use Rattle.std.proofs.lemmas.List.Folds.{list_any-append}
use Rattle.std.specs.Option.{option_to_list}
use Rattle.std.proofs.lemmas.List.{append-nil, reverse-append, reverse-reverse}
use Rattle.std.proofs.Math.Seq.{take-append_seam}
use Rattle.dns_messages.specs.declared.message.Message.{Message}
use Rattle.dns_messages.specs.Grammar.{ReadsMessage}
use Rattle.dns_zone.specs.Rows.{ZoneContent}
use Rattle.stub_link.specs.declared.link.LinkError.{LinkError}
use Rattle.stub_link.specs.declared.link.LinkError.TheVariants.{Failed, Memory}
use Rattle.stub_link.specs.declared.link.script.LinkEvent.{LinkEvent}
use Rattle.stub_link.specs.declared.link.script.LinkEvent.TheVariants.{Question, Update, Reply, Quiet, Fail}
use Rattle.stub_link.specs.declared.link.script.Script.{Script}
use Rattle.stub_link.specs.declared.link.server.Server.{Server}
use Rattle.stub_link.specs.declared.link.scripted.ScriptedLink.{ScriptedLink}
use Rattle.stub_link.specs.LinkState.{Course, Honest, Listed, LinkState, Received, ServerReply, begin_event, begin_update, begins_with_fail, course_of, deliver, deliver_event, deliver_named, deliver_rest, end_event, first_link_state, is_delivery, message_of, named_update, receive_listed, receive_reply, receives_in, with_last, without_first}
use Rattle.stub_link.specs.ScriptedLink.{AreRelated, HasSent, IsAt, IsBegun, IsCourse, IsDelivered, IsEnded, IsPlace, IsReceived, IsRequest, IsServerOf, ReceivesListed, bytes_of, named_place, places_of}
use Rattle.stub_link.proofs.Delivering.{AreAt, at_none, at_some, related-append, related-at}

-- ---- a delivery

-- the server took a request; what was sent stays
pub sent-after : (old : ScriptedLink) (server : Server) (state after : LinkState) → HasSent old state → IsServerOf server after → after.datagrams ≡ state.datagrams → after.updates ≡ state.updates
    → HasSent (record old { server = server }) after
sent-after old server state after h s datagrams updates = record {
  server = s;
  datagrams = subst (AreRelated IsRequest (reverse (bytes_of old.datagrams))) (sym datagrams) h.datagrams;
  updates = subst (AreRelated IsPlace (places_of old.updates)) (sym updates) h.updates;
}

pub named-datagrams : (m : Option Message) (state : LinkState) → (deliver_named m state).datagrams ≡ state.datagrams
named-datagrams None state = refl
named-datagrams (Some m) state = refl

pub named-updates : (m : Option Message) (state : LinkState) → (deliver_named m state).updates ≡ state.updates
named-updates None state = refl
named-updates (Some m) state = refl

-- what a number names, in bytes and as a message
pub place-of-datagram : (x : Option (List ℕ)) (y : Option Message) → AreAt IsRequest x y → IsPlace x y
place-of-datagram x y (at_none a b) = subst (λ z. IsPlace z y) (sym a) (subst (IsPlace None) (sym b) tt)
place-of-datagram x y (at_some bytes m a b r) = subst (λ z. IsPlace z y) (sym a) (subst (IsPlace (Some bytes)) (sym b) r)

pub place-of-update : (x : Option (Option (List ℕ))) (y : Option (Option Message)) → AreAt IsPlace x y → IsPlace (named_place x) (named_update y)
place-of-update x y (at_none a b) = subst (λ z. IsPlace (named_place z) (named_update y)) (sym a) (subst (λ z. IsPlace None (named_update z)) (sym b) tt)
place-of-update x y (at_some bytes m a b r) = subst (λ z. IsPlace (named_place z) (named_update y)) (sym a) (subst (λ z. IsPlace bytes (named_update z)) (sym b) r)

pub question-place : (link : ScriptedLink) (state : LinkState) (n : ℕ) → HasSent link state → IsPlace (slice_get (reverse (bytes_of link.datagrams)) n) (slice_get state.datagrams n)
question-place link state n h = place-of-datagram _ _ (related-at IsRequest (reverse (bytes_of link.datagrams)) state.datagrams n h.datagrams)

pub update-place : (link : ScriptedLink) (state : LinkState) (k : ℕ) → HasSent link state → IsPlace (named_place (slice_get (places_of link.updates) k)) (named_update (slice_get state.updates k))
update-place link state k h = place-of-update _ _ (related-at IsPlace (places_of link.updates) state.updates k h.updates)

-- ---- the next event of a listed script

pub reverse-last : {X : Type 0} (xs ys : List X) (x : X) → xs ≡ ys ++ x ∷ [] → reverse xs ≡ x ∷ reverse ys
reverse-last xs ys x e = ap reverse e ∙ reverse-append ys (x ∷ [])

-- ---- receives of a listed script keep what is no part of it

pub keeps-update : (events : List LinkEvent) (state : LinkState) → (receive_listed events state).state.is_update ≡ state.is_update
keeps-update [] state = refl
keeps-update (Quiet ∷ events) state = refl
keeps-update (Fail ∷ events) state = refl
keeps-update (Reply n ∷ events) state = by (keeps-update events state) (slice_get state.replies n)
  where
    by : (receive_listed events state).state.is_update ≡ state.is_update → (r : Option ServerReply) → (receive_reply r events state (receive_listed events state)).state.is_update ≡ state.is_update
    by k (Some r) = refl
    by k None = k
keeps-update (Question n ∷ events) state = keeps-update events (deliver_event state (Question n)) ∙ by (slice_get state.datagrams n)
  where
    by : (m : Option Message) → (deliver_named m state).is_update ≡ state.is_update
    by (Some m) = refl
    by None = refl
keeps-update (Update k ∷ events) state = keeps-update events (deliver_event state (Update k)) ∙ by (named_update (slice_get state.updates k))
  where
    by : (m : Option Message) → (deliver_named m state).is_update ≡ state.is_update
    by (Some m) = refl
    by None = refl

pub keeps-memory : (events : List LinkEvent) (state : LinkState) → (receive_listed events state).state.out_of_memory ≡ state.out_of_memory
keeps-memory [] state = refl
keeps-memory (Quiet ∷ events) state = refl
keeps-memory (Fail ∷ events) state = refl
keeps-memory (Reply n ∷ events) state = by (keeps-memory events state) (slice_get state.replies n)
  where
    by : (receive_listed events state).state.out_of_memory ≡ state.out_of_memory → (r : Option ServerReply) → (receive_reply r events state (receive_listed events state)).state.out_of_memory ≡ state.out_of_memory
    by k (Some r) = refl
    by k None = k
keeps-memory (Question n ∷ events) state = keeps-memory events (deliver_event state (Question n)) ∙ by (slice_get state.datagrams n)
  where
    by : (m : Option Message) → (deliver_named m state).out_of_memory ≡ state.out_of_memory
    by (Some m) = refl
    by None = refl
keeps-memory (Update k ∷ events) state = keeps-memory events (deliver_event state (Update k)) ∙ by (named_update (slice_get state.updates k))
  where
    by : (m : Option Message) → (deliver_named m state).out_of_memory ≡ state.out_of_memory
    by (Some m) = refl
    by None = refl

-- ---- the last place of an update

pub with-last : {X : Type 0} (xs ys : List X) (x : X) (last : Option X) → xs ≡ ys ++ option_to_list last → (last ≡ None → xs ≡ []) → with_last x xs ≡ ys ++ x ∷ []
with-last xs ys x None e empty =
    let nothing : xs ≡ [] = empty refl in
    let none : ys ≡ [] = sym (append-nil ys) ∙ sym e ∙ nothing in
    ap (λ zs. take (length zs - 1) zs ++ x ∷ []) nothing ∙ ap (λ zs. zs ++ x ∷ []) (sym none)
with-last xs ys x (Some y) e empty =
    let n : length (ys ++ y ∷ []) - 1 ≡ length ys = omega (arith, length-append ys (y ∷ [])) in
    ap (λ zs. zs ++ x ∷ []) (ap (λ zs. take (length zs - 1) zs) e ∙ ap (λ (k : ℕ). take k (ys ++ y ∷ [])) n ∙ take-append_seam ys (y ∷ []))

-- ---- a script, event by event

-- from here on, deliveries of the rest of a script lead to a state
pub record EventsLead (link : ScriptedLink) (events : List LinkEvent) (goal : LinkState) : Type 0 where
  pub now : LinkState
  pub sent : HasSent link now
  pub same : fold deliver_event now events ≡ goal

pub events-step : (old new : ScriptedLink) (event : LinkEvent) (more : List LinkEvent) (goal : LinkState) → ((state : LinkState) → HasSent old state → HasSent new (deliver_event state event)) → EventsLead old (event ∷ more) goal
    → EventsLead new more goal
events-step old new event more goal d r = record { now = deliver_event r.now event; sent = d r.now r.sent; same = r.same }

pub events-end : (link : ScriptedLink) (goal : LinkState) → EventsLead link [] goal → HasSent link goal
events-end link goal r = subst (HasSent link) r.same r.sent

-- from here on, a receive by the rest of a script ends as it does
pub record ReceiveLeads (link : ScriptedLink) (events : List LinkEvent) (goal : Received) : Type 0 where
  pub now : LinkState
  pub sent : HasSent link now
  pub same : receive_listed events now ≡ goal

-- `HasSent` does not look at what is left of a script
pub sent-same : (old new : ScriptedLink) (state : LinkState) → new.server ≡ old.server → new.datagrams ≡ old.datagrams → new.updates ≡ old.updates → HasSent old state → HasSent new state
sent-same old new state server datagrams updates h = record {
  server = subst (λ (s : Server). IsServerOf s state) (sym server) h.server;
  datagrams = subst (λ v. AreRelated IsRequest (reverse (bytes_of v)) state.datagrams) (sym datagrams) h.datagrams;
  updates = subst (λ v. AreRelated IsPlace (places_of v) state.updates) (sym updates) h.updates;
}

-- nor at the event
pub sent-course : (link : ScriptedLink) (state : LinkState) (course : Course) → HasSent link state → HasSent link (record state { course = course })
sent-course link state course h = record {
  server = record { zone = h.server.zone; limit = h.server.limit; replies = h.server.replies };
  datagrams = h.datagrams;
  updates = h.updates;
}

-- ---- a delivery changes the server alone

-- what deliveries leave as it is
pub record KeepsRest (old new : LinkState) : Type 0 where
  pub datagrams : new.datagrams ≡ old.datagrams
  pub updates : new.updates ≡ old.updates
  pub course : new.course ≡ old.course
  pub is_update : new.is_update ≡ old.is_update
  pub out_of_memory : new.out_of_memory ≡ old.out_of_memory

keeps-all : (state : LinkState) → KeepsRest state state
keeps-all state = record { datagrams = refl; updates = refl; course = refl; is_update = refl; out_of_memory = refl }

keeps-then : (old mid new : LinkState) → KeepsRest old mid → KeepsRest mid new → KeepsRest old new
keeps-then old mid new k l = record {
  datagrams = l.datagrams ∙ k.datagrams;
  updates = l.updates ∙ k.updates;
  course = l.course ∙ k.course;
  is_update = l.is_update ∙ k.is_update;
  out_of_memory = l.out_of_memory ∙ k.out_of_memory;
}

named-keeps : (m : Option Message) (state : LinkState) → KeepsRest state (deliver_named m state)
named-keeps None state = record { datagrams = refl; updates = refl; course = refl; is_update = refl; out_of_memory = refl }
named-keeps (Some m) state = record { datagrams = refl; updates = refl; course = refl; is_update = refl; out_of_memory = refl }

event-keeps : (event : LinkEvent) (state : LinkState) → KeepsRest state (deliver_event state event)
event-keeps (Question n) state = named-keeps (slice_get state.datagrams n) state
event-keeps (Update k) state = named-keeps (named_update (slice_get state.updates k)) state
event-keeps (Reply n) state = keeps-all state
event-keeps Quiet state = keeps-all state
event-keeps Fail state = keeps-all state

pub honest-keeps : (under_way : List Message) (state : LinkState) → KeepsRest state (fold (λ (now : LinkState) (m : Message). deliver m now) state under_way)
honest-keeps [] state = keeps-all state
honest-keeps (m ∷ under_way) state = keeps-then state (deliver m state) _ (named-keeps (Some m) state) (honest-keeps under_way (deliver m state))

listed-keeps : (events : List LinkEvent) (state : LinkState) → KeepsRest state (fold deliver_event state events)
listed-keeps [] state = keeps-all state
listed-keeps (event ∷ events) state = keeps-then state (deliver_event state event) _ (event-keeps event state) (listed-keeps events (deliver_event state event))

pub rest-keeps : (course : Course) (state : LinkState) → KeepsRest state (deliver_rest course state)
rest-keeps (Honest under_way) state = honest-keeps under_way state
rest-keeps (Listed events) state = listed-keeps events state

-- ---- events begin and end

-- `HasSent` does not look at what an event is
pub sent-event : (link : ScriptedLink) (state : LinkState) (moment : ℕ) (course : Course) (is_update : Bool) → HasSent link state → HasSent link (record state { moment = moment; course = course; is_update = is_update })
sent-event link state moment course is_update h = record {
  server = record { zone = h.server.zone; limit = h.server.limit; replies = h.server.replies };
  datagrams = h.datagrams;
  updates = h.updates;
}

pub sent-updates : (link : ScriptedLink) (state : LinkState) (moment : ℕ) (course : Course) (is_update : Bool) (updates : List (Option Message)) → IsServerOf link.server state → AreRelated IsRequest (reverse (bytes_of link.datagrams)) state.datagrams
    → AreRelated IsPlace (places_of link.updates) updates → HasSent link (record state { moment = moment; course = course; is_update = is_update; updates = updates })
sent-updates link state moment course is_update updates server datagrams places = record {
  server = record { zone = server.zone; limit = server.limit; replies = server.replies };
  datagrams = datagrams;
  updates = places;
}

pub course-same : (old new : ScriptedLink) (course : Course) → new.is_honest ≡ old.is_honest → new.under_way ≡ old.under_way → new.events ≡ old.events → IsCourse old course → IsCourse new course
course-same old new (Honest under_way) honest way events h =
    (honest ∙ h.0, subst (λ (v : Vec (Vec ℕ)). AreRelated IsRequest (bytes_of v) under_way) (sym way) h.1, ap (λ (v : Vec LinkEvent). v.items) events ∙ h.2)
course-same old new (Listed left) honest way events h =
    (honest ∙ h.0, ap (λ (v : Vec (Vec ℕ)). v.items) way ∙ h.1, ap (λ (v : Vec LinkEvent). reverse v.items) events ∙ h.2)

-- a new link
pub new-link : (link : ScriptedLink) (zone : ZoneContent) (limit : ℕ) → IsServerOf link.server (first_link_state zone limit) → link.datagrams.items ≡ [] → link.updates.items ≡ [] → link.under_way.items ≡ [] → link.events.items ≡ []
    → link.is_honest ≡ true → link.is_update ≡ false → link.out_of_memory ≡ false → IsAt link (first_link_state zone limit)
new-link link zone limit server datagrams updates way events honest update memory = record {
  memory = memory;
  shows = λ lives. record {
    sent = record {
      server = server;
      datagrams = subst (λ (xs : List (Vec ℕ)). AreRelated IsRequest (reverse (map (λ (b : Vec ℕ). b.items) xs)) []) (sym datagrams) tt;
      updates = subst (λ (xs : List (Option (Vec ℕ))). AreRelated IsPlace (map (option_map (λ (b : Vec ℕ). b.items)) xs) []) (sym updates) tt;
    };
    course = (honest, subst (λ (xs : List (Vec ℕ)). AreRelated IsRequest (map (λ (b : Vec ℕ). b.items) xs) []) (sym way) tt, events);
    is_update = update;
  };
}

-- a script is followed from its beginning
pub follows-honest : (link : ScriptedLink) → link.is_honest ≡ true → link.under_way.items ≡ [] → link.events.items ≡ [] → IsCourse link (Honest [])
follows-honest link honest way events = (honest, subst (λ (xs : List (Vec ℕ)). AreRelated IsRequest (map (λ (b : Vec ℕ). b.items) xs) []) (sym way) tt, events)

pub follows-listed : (link : ScriptedLink) (events : List LinkEvent) → link.is_honest ≡ false → link.under_way.items ≡ [] → link.events.items ≡ reverse events → IsCourse link (Listed events)
follows-listed link events honest way e = (honest, way, ap reverse e ∙ reverse-reverse events)

-- an event begins
pub event-begun : (old mid new : ScriptedLink) (s : Script) (done result : Result (Unit {0}) AllocError)
    → OnOk done (IsCourse mid (course_of s)) → mid ≡ record old { is_honest = mid.is_honest; under_way = mid.under_way; events = mid.events } → result ≡ done
    → OnOk done (new ≡ record mid { is_update = false }) → OnErr done (new ≡ record mid { is_update = false; out_of_memory = true })
    → IsBegun old result new (λ moment state. begin_event moment s state)
event-begun old mid new s (Ok done) result course rest same ok err =
    subst (λ (r : Result (Unit {0}) AllocError). IsBegun old r new (λ moment state. begin_event moment s state)) (sym same)
    (record {
      begins = λ moment state at. record {
        memory = ap (λ (l : ScriptedLink). l.out_of_memory) ok ∙ ap (λ (l : ScriptedLink). l.out_of_memory) rest ∙ at.memory;
        shows = λ lives.
            let shown = at.shows (sym (ap (λ (l : ScriptedLink). l.out_of_memory) ok ∙ ap (λ (l : ScriptedLink). l.out_of_memory) rest) ∙ lives) in
            record {
              sent = sent-event new state moment (course_of s) false (sent-same old new state (ap (λ (l : ScriptedLink). l.server) ok ∙ ap (λ (l : ScriptedLink). l.server) rest) (ap (λ (l : ScriptedLink). l.datagrams) ok ∙ ap (λ (l : ScriptedLink). l.datagrams) rest)
                  (ap (λ (l : ScriptedLink). l.updates) ok ∙ ap (λ (l : ScriptedLink). l.updates) rest) shown.sent);
              course = course-same mid new (course_of s) (ap (λ (l : ScriptedLink). l.is_honest) ok) (ap (λ (l : ScriptedLink). l.under_way) ok) (ap (λ (l : ScriptedLink). l.events) ok) course;
              is_update = ap (λ (l : ScriptedLink). l.is_update) ok;
            };
      };
      refused = tt;
      failures = ap (λ (l : ScriptedLink). l.failures) ok ∙ ap (λ (l : ScriptedLink). l.failures) rest;
    })
event-begun old mid new s (Err error) result course rest same ok err =
    subst (λ (r : Result (Unit {0}) AllocError). IsBegun old r new (λ moment state. begin_event moment s state)) (sym same)
    (record {
      begins = tt;
      refused = ap (λ (l : ScriptedLink). l.out_of_memory) err;
      failures = ap (λ (l : ScriptedLink). l.failures) err ∙ ap (λ (l : ScriptedLink). l.failures) rest;
    })

-- an event begins that sends an update
pub update-begun : (old mid new : ScriptedLink) (s : Script) (done result : Result (Unit {0}) AllocError)
    → OnOk done (IsCourse mid (course_of s)) → OnOk done (places_of mid.updates ≡ places_of old.updates ++ None ∷ [])
    → mid ≡ record old { is_honest = mid.is_honest; under_way = mid.under_way; events = mid.events; updates = mid.updates } → result ≡ done
    → OnOk done (new ≡ record mid { is_update = true }) → OnErr done (new ≡ record mid { is_update = true; out_of_memory = true })
    → IsBegun old result new (λ moment state. begin_update moment s state)
update-begun old mid new s (Ok done) result course place rest same ok err =
    subst (λ (r : Result (Unit {0}) AllocError). IsBegun old r new (λ moment state. begin_update moment s state)) (sym same)
    (record {
      begins = λ moment state at. record {
        memory = ap (λ (l : ScriptedLink). l.out_of_memory) ok ∙ ap (λ (l : ScriptedLink). l.out_of_memory) rest ∙ at.memory;
        shows = λ lives.
            let shown = at.shows (sym (ap (λ (l : ScriptedLink). l.out_of_memory) ok ∙ ap (λ (l : ScriptedLink). l.out_of_memory) rest) ∙ lives) in
            let places : places_of new.updates ≡ places_of old.updates ++ None ∷ [] = ap (λ (l : ScriptedLink). places_of l.updates) ok ∙ place in
            record {
              sent = sent-updates new state moment (course_of s) true (state.updates ++ None ∷ [])
                  (subst (λ (server : Server). IsServerOf server state) (sym (ap (λ (l : ScriptedLink). l.server) ok ∙ ap (λ (l : ScriptedLink). l.server) rest)) shown.sent.server)
                  (subst (λ (v : Vec (Vec ℕ)). AreRelated IsRequest (reverse (bytes_of v)) state.datagrams) (sym (ap (λ (l : ScriptedLink). l.datagrams) ok ∙ ap (λ (l : ScriptedLink). l.datagrams) rest)) shown.sent.datagrams)
                  (subst (λ (xs : List (Option (List ℕ))). AreRelated IsPlace xs (state.updates ++ None ∷ [])) (sym places) (related-append IsPlace (places_of old.updates) state.updates None None shown.sent.updates tt));
              course = course-same mid new (course_of s) (ap (λ (l : ScriptedLink). l.is_honest) ok) (ap (λ (l : ScriptedLink). l.under_way) ok) (ap (λ (l : ScriptedLink). l.events) ok) course;
              is_update = ap (λ (l : ScriptedLink). l.is_update) ok;
            };
      };
      refused = tt;
      failures = ap (λ (l : ScriptedLink). l.failures) ok ∙ ap (λ (l : ScriptedLink). l.failures) rest;
    })
update-begun old mid new s (Err error) result course place rest same ok err =
    subst (λ (r : Result (Unit {0}) AllocError). IsBegun old r new (λ moment state. begin_update moment s state)) (sym same)
    (record {
      begins = tt;
      refused = ap (λ (l : ScriptedLink). l.out_of_memory) err;
      failures = ap (λ (l : ScriptedLink). l.failures) err ∙ ap (λ (l : ScriptedLink). l.failures) rest;
    })

-- what a script has not delivered is delivered
pub rest-honest : (old mid new : ScriptedLink) (state : LinkState) (under_way : List Message) → HasSent old state → old.events.items ≡ [] → IsServerOf mid.server (fold (λ (now : LinkState) (m : Message). deliver m now) state under_way)
    → mid.datagrams ≡ old.datagrams → mid.updates ≡ old.updates → mid.events ≡ old.events
    → ((now : LinkState) → HasSent mid now → HasSent new (fold deliver_event now (reverse mid.events.items))) → HasSent new (deliver_rest (Honest under_way) state)
rest-honest old mid new state under_way h none server datagrams updates events ends =
    let after : LinkState = fold (λ (now : LinkState) (m : Message). deliver m now) state under_way in
    let keeps = honest-keeps under_way state in
    let sent : HasSent mid after = record {
      server = server;
      datagrams = subst (λ (v : Vec (Vec ℕ)). AreRelated IsRequest (reverse (bytes_of v)) after.datagrams) (sym datagrams) (subst (AreRelated IsRequest (reverse (bytes_of old.datagrams))) (sym keeps.datagrams) h.datagrams);
      updates = subst (λ (v : Vec (Option (Vec ℕ))). AreRelated IsPlace (places_of v) after.updates) (sym updates) (subst (AreRelated IsPlace (places_of old.updates)) (sym keeps.updates) h.updates);
    } in
    subst (λ (es : List LinkEvent). HasSent new (fold deliver_event after es)) (ap (λ (v : Vec LinkEvent). reverse v.items) events ∙ ap reverse none) (ends after sent)

pub rest-listed : (old mid new : ScriptedLink) (state : LinkState) (left : List LinkEvent) → HasSent old state → reverse old.events.items ≡ left → IsServerOf mid.server state
    → mid.datagrams ≡ old.datagrams → mid.updates ≡ old.updates → mid.events ≡ old.events
    → ((now : LinkState) → HasSent mid now → HasSent new (fold deliver_event now (reverse mid.events.items))) → HasSent new (deliver_rest (Listed left) state)
rest-listed old mid new state left h is server datagrams updates events ends =
    let sent : HasSent mid state = record {
      server = server;
      datagrams = subst (λ (v : Vec (Vec ℕ)). AreRelated IsRequest (reverse (bytes_of v)) state.datagrams) (sym datagrams) h.datagrams;
      updates = subst (λ (v : Vec (Option (Vec ℕ))). AreRelated IsPlace (places_of v) state.updates) (sym updates) h.updates;
    } in
    subst (λ (es : List LinkEvent). HasSent new (fold deliver_event state es)) (ap (λ (v : Vec LinkEvent). reverse v.items) events ∙ is) (ends state sent)

-- all that is under way, and all that is listed
pub rest-delivered : (old mid new : ScriptedLink)
    → ((state : LinkState) (sent : List Message) → IsServerOf old.server state → AreRelated IsRequest (bytes_of old.under_way) sent → IsServerOf mid.server (fold (λ (now : LinkState) (m : Message). deliver m now) state sent))
    → mid.datagrams ≡ old.datagrams → mid.updates ≡ old.updates → mid.events ≡ old.events
    → ((now : LinkState) → HasSent mid now → HasSent new (fold deliver_event now (reverse mid.events.items)))
    → (state : LinkState) (course : Course) → HasSent old state → IsCourse old course → HasSent new (deliver_rest course state)
rest-delivered old mid new delivers datagrams updates events ends state (Honest under_way) h is =
    rest-honest old mid new state under_way h is.2 (delivers state under_way h.server is.1) datagrams updates events ends
rest-delivered old mid new delivers datagrams updates events ends state (Listed left) h is =
    let none : AreRelated IsRequest (bytes_of old.under_way) [] = subst (λ (xs : List (Vec ℕ)). AreRelated IsRequest (map (λ (b : Vec ℕ). b.items) xs) []) (sym is.1) tt in
    rest-listed old mid new state left h is.2 (delivers state [] h.server none) datagrams updates events ends

pub rest-delivered-by : (old mid new : ScriptedLink) (done : Result (Unit {0}) AllocError)
    → ((state : LinkState) (sent : List Message) → IsServerOf old.server state → AreRelated IsRequest (bytes_of old.under_way) sent → IsServerOf mid.server (fold (λ (now : LinkState) (m : Message). deliver m now) state sent))
    → mid.datagrams ≡ old.datagrams → mid.updates ≡ old.updates → mid.events ≡ old.events
    → OnOk done ((now : LinkState) → HasSent mid now → HasSent new (fold deliver_event now (reverse mid.events.items)))
    → OnOk done ((state : LinkState) (course : Course) → HasSent old state → IsCourse old course → HasSent new (deliver_rest course state))
rest-delivered-by old mid new (Ok done) delivers datagrams updates events ends = rest-delivered old mid new delivers datagrams updates events ends
rest-delivered-by old mid new (Err error) delivers datagrams updates events ends = tt

-- an event ends
pub event-ended : (old mid new : ScriptedLink) (done result : Result (Unit {0}) AllocError)
    → OnOk done ((state : LinkState) (course : Course) → HasSent old state → IsCourse old course → HasSent mid (deliver_rest course state))
    → OnOk done ((mid.under_way.items ≡ []) × (mid.events.items ≡ [])) → (IsDelivered old → IsOk done)
    → mid ≡ record old { server = mid.server; under_way = mid.under_way; events = mid.events } → result ≡ done
    → OnOk done (new ≡ record mid { is_honest = true }) → OnErr done (new ≡ record mid { is_honest = true; out_of_memory = true })
    → IsEnded old result new
event-ended old mid new (Ok done) result ends empty decided rest same ok err =
    subst (λ (r : Result (Unit {0}) AllocError). IsEnded old r new) (sym same)
    (record {
      ends = λ state at.
          let begun : LinkState = record state { course = Honest [] } in
          let keeps = rest-keeps state.course begun in
          record {
            memory = ap (λ (l : ScriptedLink). l.out_of_memory) ok ∙ ap (λ (l : ScriptedLink). l.out_of_memory) rest ∙ at.memory ∙ sym keeps.out_of_memory;
            shows = λ lives.
                let shown = at.shows (sym (ap (λ (l : ScriptedLink). l.out_of_memory) ok ∙ ap (λ (l : ScriptedLink). l.out_of_memory) rest) ∙ lives) in
                let here : IsCourse new (Honest []) = follows-honest new (ap (λ (l : ScriptedLink). l.is_honest) ok) (ap (λ (l : ScriptedLink). l.under_way.items) ok ∙ empty.0) (ap (λ (l : ScriptedLink). l.events.items) ok ∙ empty.1) in
                record {
                  sent = sent-same mid new (deliver_rest state.course begun) (ap (λ (l : ScriptedLink). l.server) ok) (ap (λ (l : ScriptedLink). l.datagrams) ok) (ap (λ (l : ScriptedLink). l.updates) ok)
                      (ends begun state.course (sent-course old state (Honest []) shown.sent) shown.course);
                  course = subst (IsCourse new) (sym keeps.course) here;
                  is_update = ap (λ (l : ScriptedLink). l.is_update) ok ∙ ap (λ (l : ScriptedLink). l.is_update) rest ∙ shown.is_update ∙ sym keeps.is_update;
                };
          };
      decided = λ left. refl;
      refused = tt;
      failures = ap (λ (l : ScriptedLink). l.failures) ok ∙ ap (λ (l : ScriptedLink). l.failures) rest;
    })
event-ended old mid new (Err error) result ends empty decided rest same ok err =
    subst (λ (r : Result (Unit {0}) AllocError). IsEnded old r new) (sym same)
    (record {
      ends = tt;
      decided = decided;
      refused = ap (λ (l : ScriptedLink). l.out_of_memory) err;
      failures = ap (λ (l : ScriptedLink). l.failures) err ∙ ap (λ (l : ScriptedLink). l.failures) rest;
    })

-- ---- the events of a script, one after another

-- an event delivers the datagram that it names
pub event-delivered : (old : ScriptedLink) (server : Server) (bytes : Option (List ℕ)) (done : Result (Unit {0}) AllocError) (event : LinkEvent) (place : LinkState → Option Message)
    → ((state : LinkState) → HasSent old state → IsPlace bytes (place state)) → ((state : LinkState) → deliver_event state event ≡ deliver_named (place state) state)
    → OnOk done ((state : LinkState) (m : Option Message) → IsServerOf old.server state → IsPlace bytes m → IsServerOf server (deliver_named m state))
    → OnOk done ((state : LinkState) → HasSent old state → HasSent (record old { server = server }) (deliver_event state event))
event-delivered old server bytes (Err error) event place at is delivers = tt
event-delivered old server bytes (Ok done) event place at is delivers = λ state h.
    subst (HasSent (record old { server = server })) (sym (is state))
    (sent-after old server state (deliver_named (place state) state) h (delivers state (place state) h.server (at state h)) (named-datagrams (place state) state) (named-updates (place state) state))

-- what the rest of a script leads to, all of it leads to
pub record EventsLeft (first link : ScriptedLink) : Type 0 where
  pub leads : (state : LinkState) → HasSent first state → EventsLead link (reverse link.events.items) (fold deliver_event state (reverse first.events.items))
  pub rest : link ≡ record first { server = link.server; events = link.events }
  pub none : list_any is_delivery first.events.items ≡ false → list_any is_delivery link.events.items ≡ false

pub events-begun : (link : ScriptedLink) → EventsLeft link link
events-begun link = record { leads = λ state h. record { now = state; sent = h; same = refl }; rest = refl; none = λ is. is }

-- no event of a list delivers, if none of it and a last one does, and neither does the last one
neither : (a b : Bool) → (a || (b || false)) ≡ false → (a ≡ false) × (b ≡ false)
neither true b h = absurd (cc h)
neither false true h = absurd (cc h)
neither false false h = (refl, refl)

pub none-delivers : (events : List LinkEvent) (event : LinkEvent) → list_any is_delivery (events ++ event ∷ []) ≡ false
    → (list_any is_delivery events ≡ false) × (is_delivery event ≡ false)
none-delivers events event h =
    neither (list_any is_delivery events) (is_delivery event) (sym (list_any-append is_delivery events (event ∷ [])) ∙ h)

-- the server and the list alone change
pub events-rest : (first link new : ScriptedLink) (popped : Vec LinkEvent) → link ≡ record first { server = link.server; events = link.events } → new ≡ record link { server = new.server; events = popped } → new ≡ record first { server = new.server; events = new.events }
events-rest first link new popped a b =
    b ∙ ap (λ (l : ScriptedLink). record l { server = new.server; events = popped }) a ∙ ap (λ (l : ScriptedLink). record first { server = new.server; events = l.events }) (sym b)

pub events-taken : (first link new : ScriptedLink) (popped : Vec LinkEvent) (event : LinkEvent) → EventsLeft first link → link.events.items ≡ popped.items ++ event ∷ []
    → ((state : LinkState) → HasSent (record link { events = popped }) state → HasSent new (deliver_event state event)) → new ≡ record link { server = new.server; events = popped } → EventsLeft first new
events-taken first link new popped event e last delivers same = record {
  leads = λ state h.
      let r = e.leads state h in
      record {
        now = deliver_event r.now event;
        sent = delivers r.now (sent-same link (record link { events = popped }) r.now refl refl refl r.sent);
        same = ap (λ (l : ScriptedLink). fold deliver_event (deliver_event r.now event) (reverse l.events.items)) same
            ∙ ap (λ (es : List LinkEvent). fold deliver_event r.now es) (sym (reverse-last link.events.items popped.items event last)) ∙ r.same;
      };
  rest = events-rest first link new popped e.rest same;
  none = λ is. ap (λ (l : ScriptedLink). list_any is_delivery l.events.items) same
      ∙ (none-delivers popped.items event (ap (λ (es : List LinkEvent). list_any is_delivery es) (sym last) ∙ e.none is)).0;
}

pub events-ended : (first link new : ScriptedLink) → EventsLeft first link → link.events.items ≡ [] → new.server ≡ link.server → new.datagrams ≡ link.datagrams → new.updates ≡ link.updates
    → (state : LinkState) → HasSent first state → HasSent new (fold deliver_event state (reverse first.events.items))
events-ended first link new e none server datagrams updates state h =
    let r = e.leads state h in
    let same : r.now ≡ fold deliver_event state (reverse first.events.items) = ap (λ (es : List LinkEvent). fold deliver_event r.now (reverse es)) (sym none) ∙ r.same in
    subst (HasSent new) same (sent-same link new r.now server datagrams updates r.sent)

-- an event that could not be delivered
pub events-refused : (first link new : ScriptedLink) (popped : Vec LinkEvent) → EventsLeft first link → new ≡ record link { server = new.server; events = popped } → new ≡ record first { server = new.server; events = new.events }
events-refused first link new popped e same = events-rest first link new popped e.rest same

-- what succeeds is not refused
pub never-refused : {X E : Type 0} {error : E} (result : Result X E) → result ≡ Err error → IsOk result → ⊥
never-refused (Ok x) is ok = cc is
never-refused (Err error) is ok = cc ok
