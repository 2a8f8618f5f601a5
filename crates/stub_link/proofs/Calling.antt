-- The calls of the scripted link.
use Rattle.std.proofs.Common.{◌≡◌, ◌+◌, ◌-◌, ◌<◌, ◌≤◌, ℕ, zero, suc, List, [], ◌∷◌, ◌++◌, Bool, true, false, length, reverse, map, take, Option, Some, None, Result, Ok, Err, OnOk, OnErr, option_map, refl, sym, ap, subst, ◌∙◌, inl, inr, arith}
use Rattle.std.specs.Prelude.{◌⊎◌, if◌then◌else◌, slice_get}
use Rattle.std.specs.declared.alloc.AllocError.{AllocError}
use Rattle.std.specs.Option.{option_to_list}
use Rattle.std.proofs.lemmas.List.{map-append, reverse-append}
use Rattle.std.proofs.lemmas.Option.{slice_get-map}
use Rattle.std.specs.Global.{Vec}
use Rattle.std.proofs.lemmas.Bool.{true≢false}
use Rattle.dns_messages.specs.declared.message.Message.{Message}
use Rattle.dns_messages.specs.Grammar.{ReadsMessage}
use Rattle.dns_zone.specs.declared.transport.Transport.TheVariants.{Stream}
use Rattle.dns_zone.specs.Serving.{sent_reply}
use Rattle.stub_link.specs.declared.link.LinkError.{LinkError}
use Rattle.stub_link.specs.declared.link.LinkError.TheVariants.{Failed, Memory}
use Rattle.stub_link.specs.declared.link.script.LinkEvent.{LinkEvent}
use Rattle.stub_link.specs.declared.link.script.LinkEvent.TheVariants.{Question, Update, Reply, Quiet, Fail}
use Rattle.stub_link.specs.declared.link.server.Server.{Server}
use Rattle.stub_link.specs.declared.link.scripted.ScriptedLink.{ScriptedLink}
use Rattle.stub_link.specs.Link.{Rises, datagram_of, stream_reply_of}
use Rattle.stub_link.specs.LinkState.{Course, Honest, Listed, LinkState, Received, begins_with_fail, fail, receive, send, serve, with_last, with_under_way, without_first, Receives as ReceivesMessage, Sends as SendsMessage, Streams as StreamsMessage}
use Rattle.stub_link.specs.ScriptedLink.{AreRelated, CountsFailure, HasSent, IsAt, IsCourse, IsDecided, IsPlace, IsReceived, IsRequest, IsServerOf, IsStreamReply, IsStreamed, KeepsMemory, LeadsTo, Receives, Sends, Shows, Streams, TakesFail, UnlessMemory, bytes_of, named_place, places_of}
use Rattle.stub_link.proofs.Delivering.{related-append}
use Rattle.stub_link.proofs.Receiving.{ReceivesBy, receive-record}
use Rattle.stub_link.proofs.Scripts.{course-same, sent-course, sent-same, with-last}

-- ---- failures

-- the state out of memory
abbrev out_of : LinkState → LinkState
out_of state = record state { out_of_memory = true }

at-out : (link : ScriptedLink) (state : LinkState) → link.out_of_memory ≡ true → IsAt link (out_of state)
at-out link state out = record { memory = out; shows = λ lives. absurd (true≢false (sym out ∙ lives)) }

-- a script begins with `Fail` exactly if the link's list does
course-front : (link : ScriptedLink) (course : Course) → IsCourse link course → begins_with_fail course ≡ begins_with_fail (Listed (reverse link.events.items))
course-front link (Honest under_way) is = ap (λ (es : List LinkEvent). begins_with_fail (Listed (reverse es))) (sym is.2)
course-front link (Listed events) is = ap (λ (es : List LinkEvent). begins_with_fail (Listed es)) (sym is.2)

course-taken : (old new : ScriptedLink) (course : Course) → IsCourse old course → begins_with_fail (Listed (reverse old.events.items)) ≡ true → Listed (reverse new.events.items) ≡ without_first (Listed (reverse old.events.items))
    → new.is_honest ≡ old.is_honest → new.under_way ≡ old.under_way → IsCourse new (without_first course)
course-taken old new (Honest under_way) is front taken honest way =
    absurd (true≢false (sym front ∙ ap (λ (es : List LinkEvent). begins_with_fail (Listed (reverse es))) is.2))
course-taken old new (Listed []) is front taken honest way =
    absurd (true≢false (sym front ∙ ap (λ (es : List LinkEvent). begins_with_fail (Listed es)) is.2))
course-taken old new (Listed (event ∷ events)) is front taken honest way =
    let left : Listed (reverse new.events.items) ≡ Listed events = taken ∙ ap (λ (es : List LinkEvent). without_first (Listed es)) is.2 in
    (honest ∙ is.0, ap (λ (v : Vec (Vec ℕ)). v.items) way ∙ is.1, cc left)

-- a call used up `Fail`
pub record Failed-call (old new : ScriptedLink) : Type 0 where
  pub front : begins_with_fail (Listed (reverse old.events.items)) ≡ true
  pub taken : Listed (reverse new.events.items) ≡ without_first (Listed (reverse old.events.items))
  pub rest : new ≡ record old { events = new.events; failures = new.failures }

pub failed-call : (old mid new : ScriptedLink) → TakesFail old true mid → new ≡ record mid { failures = new.failures } → Failed-call old new
failed-call old mid new t e = record {
  front = sym t.front;
  taken = ap (λ (l : ScriptedLink). Listed (reverse l.events.items)) e ∙ t.taken refl;
  rest = e ∙ ap (λ (l : ScriptedLink). record l { failures = new.failures }) t.rest ∙ ap (λ (l : ScriptedLink). record old { events = l.events; failures = new.failures }) (sym e);
}

failed-memory : {X : Type 0} (old new : ScriptedLink) → Failed-call old new → KeepsMemory {X = X} old (Err Failed) new
failed-memory old new f = record {
  stays = λ out. ap (λ (l : ScriptedLink). l.out_of_memory) f.rest ∙ out;
  reported = λ lives out. absurd (true≢false (sym out ∙ ap (λ (l : ScriptedLink). l.out_of_memory) f.rest ∙ lives));
}

-- it leads from each state to the one without `Fail` in front
failed-leads : (old new : ScriptedLink) (state : LinkState) → Failed-call old new → IsAt old state → old.out_of_memory ≡ false → (begins_with_fail state.course ≡ true) × IsAt new (fail state)
failed-leads old new state f at lives =
    let shown = at.shows lives in
    let same : new.out_of_memory ≡ old.out_of_memory = ap (λ (l : ScriptedLink). l.out_of_memory) f.rest in (
      course-front old state.course shown.course ∙ f.front,
      record {
        memory = same ∙ at.memory;
        shows = λ alive. record {
          sent = sent-course new state (without_first state.course) (sent-same old new state (ap (λ (l : ScriptedLink). l.server) f.rest) (ap (λ (l : ScriptedLink). l.datagrams) f.rest) (ap (λ (l : ScriptedLink). l.updates) f.rest) shown.sent);
          course = course-taken old new state.course shown.course f.front f.taken (ap (λ (l : ScriptedLink). l.is_honest) f.rest) (ap (λ (l : ScriptedLink). l.under_way) f.rest);
          is_update = ap (λ (l : ScriptedLink). l.is_update) f.rest ∙ shown.is_update;
        };
      },
    )

-- the link goes on as it was
pub unfailed : (old mid : ScriptedLink) → TakesFail old false mid → (mid.events.items ≡ old.events.items) × (mid ≡ record old { events = mid.events })
unfailed old mid t = (t.kept refl, t.rest)

unfailed-shows : (old mid : ScriptedLink) (state : LinkState) → TakesFail old false mid → Shows old state → (begins_with_fail state.course ≡ false) × Shows mid state
unfailed-shows old mid state t shown = (
  course-front old state.course shown.course ∙ sym t.front,
  record {
    sent = sent-same old mid state (ap (λ (l : ScriptedLink). l.server) t.rest) (ap (λ (l : ScriptedLink). l.datagrams) t.rest) (ap (λ (l : ScriptedLink). l.updates) t.rest) shown.sent;
    course = kept-course state.course shown.course;
    is_update = ap (λ (l : ScriptedLink). l.is_update) t.rest ∙ shown.is_update;
  },
)
  where
    kept-course : (course : Course) → IsCourse old course → IsCourse mid course
    kept-course (Honest under_way) is =
        (ap (λ (l : ScriptedLink). l.is_honest) t.rest ∙ is.0, subst (λ (v : Vec (Vec ℕ)). AreRelated IsRequest (bytes_of v) under_way) (sym (ap (λ (l : ScriptedLink). l.under_way) t.rest)) is.1, t.kept refl ∙ is.2)
    kept-course (Listed events) is =
        (ap (λ (l : ScriptedLink). l.is_honest) t.rest ∙ is.0, ap (λ (l : ScriptedLink). l.under_way.items) t.rest ∙ is.1, ap reverse (t.kept refl) ∙ is.2)

-- ---- sending

pub sends-failed : (old new : ScriptedLink) (bytes : List ℕ) → Failed-call old new → Rises old.failures new.failures → Sends old bytes (Err Failed) new
sends-failed old new bytes f counts = record {
  memory = failed-memory old new f;
  counts = counts;
  fault = λ first. refl;
  states = λ state m at lives r.
      let l = failed-leads old new state f at lives in
      (fail state, l.1, (l.0, refl));
}

pub sends-memory : (old mid new : ScriptedLink) (bytes : List ℕ) → TakesFail old false mid → new.out_of_memory ≡ true → new.failures ≡ mid.failures → Sends old bytes (Err Memory) new
sends-memory old mid new bytes t out same = record {
  counts = same ∙ ap (λ (l : ScriptedLink). l.failures) t.rest;
  memory = record { stays = λ was. out; reported = λ lives now. refl };
  fault = λ first. absurd (true≢false (sym first ∙ sym t.front));
  states = λ state m at lives r. (out_of state, at-out new state out, out-is state);
}
  where
    out-is : (state : LinkState) → (out_of state).out_of_memory ≡ true
    out-is state = refl

send-memory : (m : Message) (state : LinkState) → (send m state).out_of_memory ≡ state.out_of_memory
send-memory m state = by state.is_update
  where
    by : (b : Bool) → (if b then record state { course = with_under_way m state.course; updates = with_last (Some m) state.updates } else record state { course = with_under_way m state.course; datagrams = m ∷ state.datagrams }).out_of_memory ≡ state.out_of_memory
    by true = refl
    by false = refl

pub sends-ok : (old mid new : ScriptedLink) (bytes : List ℕ) (done : Unit {0}) → TakesFail old false mid → ((state : LinkState) (m : Message) → Shows mid state → IsRequest bytes m → Shows new (send m state)) → new.out_of_memory ≡ mid.out_of_memory → new.failures ≡ mid.failures
    → Sends old bytes (Ok done) new
sends-ok old mid new bytes done t sends same failures = record {
  counts = failures ∙ ap (λ (l : ScriptedLink). l.failures) t.rest;
  memory = record {
    stays = λ out. memory ∙ out;
    reported = λ lives out. absurd (true≢false (sym out ∙ memory ∙ lives));
  };
  fault = λ first. absurd (true≢false (sym first ∙ sym t.front));
  states = λ state m at lives r.
      let shown = unfailed-shows old mid state t (at.shows lives) in
      (send m state, record { memory = memory ∙ at.memory ∙ sym (send-memory m state); shows = λ alive. sends state m shown.1 r }, (shown.0, refl));
}
  where
    memory : new.out_of_memory ≡ old.out_of_memory
    memory = same ∙ ap (λ (l : ScriptedLink). l.out_of_memory) t.rest

-- ---- receiving

pub receives-memory : (old new : ScriptedLink) → new.out_of_memory ≡ true → new.failures ≡ old.failures → IsDecided old (Err Memory) → Receives old (Err Memory) new
receives-memory old new out counts decided = record {
  counts = counts;
  decided = decided;
  memory = record { stays = λ was. out; reported = λ lives now. refl };
  states = λ state at lives. (Err Memory, refl, (out_of state, at-out new state out, refl));
}

receives-message : (state : LinkState) (datagram : Result (Option Message) LinkError) (after : LinkState) (received : Result (Option (List ℕ)) LinkError) → (received ≡ Err Memory → ⊥) → IsReceived received datagram → receive state ≡ record { datagram = datagram; state = after }
    → ReceivesMessage state datagram after
receives-message state (Ok datagram) after received other is e = e
receives-message state (Err Failed) after received other is e = e
receives-message state (Err Memory) after (Err error) other is e = absurd (other (ap Err is))
receives-message state (Err Memory) after (Ok None) other is e = absurd is
receives-message state (Err Memory) after (Ok (Some bytes)) other is e = absurd is

pub receives-by : (old new : ScriptedLink) (received : Result (Option (List ℕ)) LinkError) → (received ≡ Err Memory → ⊥) → ((state : LinkState) → Shows old state → ReceivesBy received new state) → new.out_of_memory ≡ old.out_of_memory → CountsFailure received old.failures new.failures → IsDecided old received → Receives old received new
receives-by old new received other receives same counts decided = record {
  counts = counts;
  decided = decided;
  memory = record {
    stays = λ out. same ∙ out;
    reported = λ lives out. absurd (true≢false (sym out ∙ same ∙ lives));
  };
  states = λ state at lives.
      let r = receives state (at.shows lives) in
      (r.datagram, r.received_is, (r.after, record { memory = same ∙ at.memory ∙ sym r.memory; shows = λ alive. r.shows }, receives-message state r.datagram r.after received other r.received_is r.receive_is));
}

-- ---- streams

pub streams-failed : (old new : ScriptedLink) (bytes : List ℕ) → Failed-call old new → Rises old.failures new.failures → Streams old bytes (Err Failed) new
streams-failed old new bytes f counts = record {
  counts = counts;
  memory = failed-memory old new f;
  fault = λ first. refl;
  states = λ state m at lives r within.
      let l = failed-leads old new state f at lives in
      (Err Failed, refl, (fail state, l.1, (l.0, refl)));
}

pub streams-memory : (old mid new : ScriptedLink) (bytes : List ℕ) → TakesFail old false mid → new.out_of_memory ≡ true → new.failures ≡ mid.failures → Streams old bytes (Err Memory) new
streams-memory old mid new bytes t out same = record {
  counts = same ∙ ap (λ (l : ScriptedLink). l.failures) t.rest;
  memory = record { stays = λ was. out; reported = λ lives now. refl };
  fault = λ first. absurd (true≢false (sym first ∙ sym t.front));
  states = λ state m at lives r within. (Err Memory, refl, (out_of state, at-out new state out, refl));
}

served-shows : (mid new : ScriptedLink) (state : LinkState) (m : Message) → Shows mid state → IsServerOf new.server (serve m state) → new ≡ record mid { server = new.server } → Shows new (serve m state)
served-shows mid new state m shown server e = record {
  sent = record {
    server = server;
    datagrams = subst (λ (v : Vec (Vec ℕ)). AreRelated IsRequest (reverse (bytes_of v)) state.datagrams) (sym (ap (λ (l : ScriptedLink). l.datagrams) e)) shown.sent.datagrams;
    updates = subst (λ (v : Vec (Option (Vec ℕ))). AreRelated IsPlace (places_of v) state.updates) (sym (ap (λ (l : ScriptedLink). l.updates) e)) shown.sent.updates;
  };
  course = course-same mid new state.course (ap (λ (l : ScriptedLink). l.is_honest) e) (ap (λ (l : ScriptedLink). l.under_way) e) (ap (λ (l : ScriptedLink). l.events) e) shown.course;
  is_update = ap (λ (l : ScriptedLink). l.is_update) e ∙ shown.is_update;
}

stream-read : (m : Message) (reply : Vec ℕ) → IsStreamReply m (Some reply) → ReadsMessage reply.items m
stream-read m reply is = is

pub streams-ok : (old mid new : ScriptedLink) (bytes : List ℕ) (reply : Vec ℕ) → TakesFail old false mid → new ≡ record mid { server = new.server }
    → ((state : LinkState) (m : Message) → IsServerOf mid.server state → IsRequest bytes m → length bytes ≤ 65535 → IsStreamReply (sent_reply state.zone Stream m) (Some reply) × IsServerOf new.server (serve m state))
    → Streams old bytes (Ok reply.items) new
streams-ok old mid new bytes reply t e serves = record {
  counts = ap (λ (l : ScriptedLink). l.failures) e ∙ ap (λ (l : ScriptedLink). l.failures) t.rest;
  memory = record {
    stays = λ out. memory ∙ out;
    reported = λ lives out. absurd (true≢false (sym out ∙ memory ∙ lives));
  };
  fault = λ first. absurd (true≢false (sym first ∙ sym t.front));
  states = λ state m at lives r within.
      let shown = unfailed-shows old mid state t (at.shows lives) in
      let s = serves state m shown.1.sent.server r within in (
        Ok (sent_reply state.zone Stream m),
        stream-read (sent_reply state.zone Stream m) reply s.0,
        (serve m state, record { memory = memory ∙ at.memory; shows = λ alive. served-shows mid new state m shown.1 s.1 e }, (shown.0, refl, refl)),
      );
}
  where
    memory : new.out_of_memory ≡ old.out_of_memory
    memory = ap (λ (l : ScriptedLink). l.out_of_memory) e ∙ ap (λ (l : ScriptedLink). l.out_of_memory) t.rest

-- no request of at most 65,535 bytes lacks a reply
pub streams-none : (old mid new : ScriptedLink) (bytes : List ℕ) (server : Server) → TakesFail old false mid → new.out_of_memory ≡ mid.out_of_memory → Rises mid.failures new.failures
    → ((state : LinkState) (m : Message) → IsServerOf mid.server state → IsRequest bytes m → length bytes ≤ 65535 → IsStreamReply (sent_reply state.zone Stream m) None × IsServerOf server (serve m state))
    → Streams old bytes (Err Failed) new
streams-none old mid new bytes server t same counts serves = record {
  counts = subst (λ (n : ℕ). Rises n new.failures) (ap (λ (l : ScriptedLink). l.failures) t.rest) counts;
  memory = record {
    stays = λ out. memory ∙ out;
    reported = λ lives out. absurd (true≢false (sym out ∙ memory ∙ lives));
  };
  fault = λ first. refl;
  states = λ state m at lives r within.
      let shown = unfailed-shows old mid state t (at.shows lives) in
      absurd (serves state m shown.1.sent.server r within).0;
}
  where
    memory : new.out_of_memory ≡ old.out_of_memory
    memory = same ∙ ap (λ (l : ScriptedLink). l.out_of_memory) t.rest

-- ---- recording

-- a datagram is under way, or its script is listed
recorded-course : (old new : ScriptedLink) (state : LinkState) (m : Message) (bytes : List ℕ) → IsCourse old state.course → IsRequest bytes m
    → (old.is_honest ≡ true → bytes_of new.under_way ≡ bytes_of old.under_way ++ bytes ∷ []) → (old.is_honest ≡ false → new.under_way ≡ old.under_way)
    → new.is_honest ≡ old.is_honest → new.events ≡ old.events → IsCourse new (with_under_way m state.course)
recorded-course old new state m bytes is r pushed same honest events = go state.course is
  where
    go : (course : Course) → IsCourse old course → IsCourse new (with_under_way m course)
    go (Honest under_way) h =
        (honest ∙ h.0, subst (λ (xs : List (List ℕ)). AreRelated IsRequest xs (under_way ++ m ∷ [])) (sym (pushed h.0)) (related-append IsRequest (bytes_of old.under_way) under_way bytes m h.1 r), ap (λ (v : Vec LinkEvent). v.items) events ∙ h.2)
    go (Listed left) h =
        (honest ∙ h.0, ap (λ (v : Vec (Vec ℕ)). v.items) (same h.0) ∙ h.1, ap (λ (v : Vec LinkEvent). reverse v.items) events ∙ h.2)

related-take : {A B : Type 0} (R : A → B → Type 0) (n : ℕ) (xs : List A) (ys : List B) → AreRelated R xs ys → AreRelated R (take n xs) (take n ys)
related-take R zero xs ys h = tt
related-take R (suc n) [] [] h = tt
related-take R (suc n) [] (y ∷ ys) h = absurd h
related-take R (suc n) (x ∷ xs) [] h = absurd h
related-take R (suc n) (x ∷ xs) (y ∷ ys) h = (h.0, related-take R n xs ys h.1)

related-length : {A B : Type 0} (R : A → B → Type 0) (xs : List A) (ys : List B) → AreRelated R xs ys → length xs ≡ length ys
related-length R [] [] h = refl
related-length R [] (y ∷ ys) h = absurd h
related-length R (x ∷ xs) [] h = absurd h
related-length R (x ∷ xs) (y ∷ ys) h = ap suc (related-length R xs ys h.1)

related-last : {A B : Type 0} (R : A → B → Type 0) (xs : List A) (ys : List B) (x : A) (y : B) → AreRelated R xs ys → R x y → AreRelated R (with_last x xs) (with_last y ys)
related-last R xs ys x y h r =
    subst (λ (n : ℕ). AreRelated R (take (length xs - 1) xs ++ x ∷ []) (take (n - 1) ys ++ y ∷ [])) (related-length R xs ys h)
    (related-append R (take (length xs - 1) xs) (take (length xs - 1) ys) x y (related-take R (length xs - 1) xs ys h) r)

abbrev sent_update : Message → LinkState → LinkState
sent_update m state = record state { course = with_under_way m state.course; updates = with_last (Some m) state.updates }

abbrev sent_datagram : Message → LinkState → LinkState
sent_datagram m state = record state { course = with_under_way m state.course; datagrams = m ∷ state.datagrams }

send-update : (m : Message) (state : LinkState) → state.is_update ≡ true → send m state ≡ sent_update m state
send-update m state is = ap (λ (b : Bool). if b then sent_update m state else sent_datagram m state) is

send-datagram : (m : Message) (state : LinkState) → state.is_update ≡ false → send m state ≡ sent_datagram m state
send-datagram m state is = ap (λ (b : Bool). if b then sent_update m state else sent_datagram m state) is

-- the datagram of an update takes the place of the event
pub recorded-update : (old mid new : ScriptedLink) (bytes : List ℕ) (done : Result (Unit {0}) AllocError)
    → (old.is_honest ≡ true → bytes_of mid.under_way ≡ bytes_of old.under_way ++ bytes ∷ []) → (old.is_honest ≡ false → mid.under_way ≡ old.under_way) → mid ≡ record old { under_way = mid.under_way }
    → mid.is_update ≡ true → OnOk done (places_of new.updates ≡ with_last (Some bytes) (places_of mid.updates)) → new ≡ record mid { updates = new.updates }
    → OnOk done ((state : LinkState) (m : Message) → Shows old state → IsRequest bytes m → Shows new (send m state))
recorded-update old mid new bytes (Err error) pushed same first is place second = tt
recorded-update old mid new bytes (Ok done) pushed same first is place second = λ state m shown r.
    subst (λ (s : LinkState). Shows new s) (sym (send-update m state (sym shown.is_update ∙ ap (λ (l : ScriptedLink). l.is_update) (sym first) ∙ is)))
    (record {
      sent = record {
        server = subst (λ (server : Server). IsServerOf server (sent_update m state)) (sym server)
            (record { zone = shown.sent.server.zone; limit = shown.sent.server.limit; replies = shown.sent.server.replies });
        datagrams = subst (λ (v : Vec (Vec ℕ)). AreRelated IsRequest (reverse (bytes_of v)) state.datagrams) (sym datagrams) shown.sent.datagrams;
        updates = subst (λ (xs : List (Option (List ℕ))). AreRelated IsPlace xs (with_last (Some m) state.updates)) (sym (place ∙ ap (λ (l : ScriptedLink). with_last (Some bytes) (places_of l.updates)) first)) (related-last IsPlace (places_of old.updates) state.updates (Some bytes) (Some m) shown.sent.updates r);
      };
      course = recorded-course old new state m bytes shown.course r (λ h. ap (λ (l : ScriptedLink). bytes_of l.under_way) second ∙ pushed h) (λ h. ap (λ (l : ScriptedLink). l.under_way) second ∙ same h)
          (ap (λ (l : ScriptedLink). l.is_honest) second ∙ ap (λ (l : ScriptedLink). l.is_honest) first) (ap (λ (l : ScriptedLink). l.events) second ∙ ap (λ (l : ScriptedLink). l.events) first);
      is_update = ap (λ (l : ScriptedLink). l.is_update) second ∙ ap (λ (l : ScriptedLink). l.is_update) first ∙ shown.is_update;
    })
  where
    server : new.server ≡ old.server
    server = ap (λ (l : ScriptedLink). l.server) second ∙ ap (λ (l : ScriptedLink). l.server) first

    datagrams : new.datagrams ≡ old.datagrams
    datagrams = ap (λ (l : ScriptedLink). l.datagrams) second ∙ ap (λ (l : ScriptedLink). l.datagrams) first

-- any other is the newest
pub recorded-datagram : (old mid new : ScriptedLink) (bytes : List ℕ) (done : Result (Unit {0}) AllocError)
    → (old.is_honest ≡ true → bytes_of mid.under_way ≡ bytes_of old.under_way ++ bytes ∷ []) → (old.is_honest ≡ false → mid.under_way ≡ old.under_way) → mid ≡ record old { under_way = mid.under_way }
    → mid.is_update ≡ false → OnOk done (bytes_of new.datagrams ≡ bytes_of mid.datagrams ++ bytes ∷ []) → new ≡ record mid { datagrams = new.datagrams }
    → OnOk done ((state : LinkState) (m : Message) → Shows old state → IsRequest bytes m → Shows new (send m state))
recorded-datagram old mid new bytes (Err error) pushed same first is newest second = tt
recorded-datagram old mid new bytes (Ok done) pushed same first is newest second = λ state m shown r.
    subst (λ (s : LinkState). Shows new s) (sym (send-datagram m state (sym shown.is_update ∙ ap (λ (l : ScriptedLink). l.is_update) (sym first) ∙ is)))
    (record {
      sent = record {
        server = subst (λ (server : Server). IsServerOf server (sent_datagram m state)) (sym server)
            (record { zone = shown.sent.server.zone; limit = shown.sent.server.limit; replies = shown.sent.server.replies });
        datagrams = subst (λ (xs : List (List ℕ)). AreRelated IsRequest xs (m ∷ state.datagrams)) (sym (ap reverse (newest ∙ ap (λ (l : ScriptedLink). bytes_of l.datagrams ++ bytes ∷ []) first) ∙ reverse-append (bytes_of old.datagrams) (bytes ∷ []))) (r, shown.sent.datagrams);
        updates = subst (λ (v : Vec (Option (Vec ℕ))). AreRelated IsPlace (places_of v) state.updates) (sym updates) shown.sent.updates;
      };
      course = recorded-course old new state m bytes shown.course r (λ h. ap (λ (l : ScriptedLink). bytes_of l.under_way) second ∙ pushed h) (λ h. ap (λ (l : ScriptedLink). l.under_way) second ∙ same h)
          (ap (λ (l : ScriptedLink). l.is_honest) second ∙ ap (λ (l : ScriptedLink). l.is_honest) first) (ap (λ (l : ScriptedLink). l.events) second ∙ ap (λ (l : ScriptedLink). l.events) first);
      is_update = ap (λ (l : ScriptedLink). l.is_update) second ∙ ap (λ (l : ScriptedLink). l.is_update) first ∙ shown.is_update;
    })
  where
    server : new.server ≡ old.server
    server = ap (λ (l : ScriptedLink). l.server) second ∙ ap (λ (l : ScriptedLink). l.server) first

    updates : new.updates ≡ old.updates
    updates = ap (λ (l : ScriptedLink). l.updates) second ∙ ap (λ (l : ScriptedLink). l.updates) first

-- ---- want of memory

-- a refusal is remembered
pub noted-out : (old new : ScriptedLink) (done result : Result (Unit {0}) AllocError) (error : AllocError) → result ≡ Err error → result ≡ done → OnErr done (new ≡ record old { out_of_memory = true }) → new.out_of_memory ≡ true
noted-out old new (Err refused) result error is same err = ap (λ (l : ScriptedLink). l.out_of_memory) err
noted-out old new (Ok done) result error is same err = absurd (let wrong : Err error ≡ Ok done = sym is ∙ same in cc wrong)

-- and counts no failure
pub noted-failures : (old new : ScriptedLink) (done : Result (Unit {0}) AllocError) → OnOk done (new ≡ old)
    → OnErr done (new ≡ record old { out_of_memory = true }) → new.failures ≡ old.failures
noted-failures old new (Ok done) ok err = ap (λ (l : ScriptedLink). l.failures) ok
noted-failures old new (Err error) ok err = ap (λ (l : ScriptedLink). l.failures) err

accepted : {P : Type 0} (done result : Result (Unit {0}) AllocError) (x : Unit {0}) → result ≡ Ok x → result ≡ done → OnOk done P → P
accepted (Ok done) result x is same p = p
accepted (Err error) result x is same p = absurd (let wrong : Ok x ≡ Err error = sym is ∙ same in cc wrong)

pub sends-noted : (old mid recorded new : ScriptedLink) (bytes : List ℕ) (done result : Result (Unit {0}) AllocError) (x : Unit {0}) → TakesFail old false mid
    → OnOk done ((state : LinkState) (m : Message) → Shows mid state → IsRequest bytes m → Shows recorded (send m state)) → recorded.out_of_memory ≡ mid.out_of_memory → recorded.failures ≡ mid.failures
    → result ≡ Ok x → result ≡ done → OnOk done (new ≡ recorded) → Sends old bytes (Ok tt) new
sends-noted old mid recorded new bytes done result x t sends memory failures is same ok =
    let e : new ≡ recorded = accepted done result x is same ok in
    let s : (state : LinkState) (m : Message) → Shows mid state → IsRequest bytes m → Shows recorded (send m state) = accepted done result x is same sends in
    sends-ok old mid new bytes tt t (λ state m shown r. subst (λ (l : ScriptedLink). Shows l (send m state)) (sym e) (s state m shown r)) (ap (λ (l : ScriptedLink). l.out_of_memory) e ∙ memory)
    (ap (λ (l : ScriptedLink). l.failures) e ∙ failures)

-- ---- receives, by what they report

abbrev Received-as : Result (Option (List ℕ)) LinkError → ScriptedLink → LinkState → Type 0
Received-as received new state =
    (datagram : Result (Option Message) LinkError) × (after : LinkState) × IsReceived received datagram × Shows new after × (receive state ≡ record { datagram = datagram; state = after }) × (after.out_of_memory ≡ state.out_of_memory)

pub reports-other : (old new : ScriptedLink) (received : Result (Option (Vec ℕ)) LinkError) → (received ≡ Err Memory → ⊥)
    → UnlessMemory received ((state : LinkState) → Shows old state → Received-as (datagram_of received) new state) → new.out_of_memory ≡ old.out_of_memory → CountsFailure received old.failures new.failures → IsDecided old (datagram_of received) → Receives old (datagram_of received) new
reports-other old new (Err Memory) other receives same counts decided = absurd (other refl)
reports-other old new (Err Failed) other receives same counts decided = receives-by old new (Err Failed) (λ e. absurd (cc e)) (λ state shown. receive-record (Err Failed) new state (receives state shown)) same counts decided
reports-other old new (Ok got) other receives same counts decided = receives-by old new (datagram_of (Ok got)) (λ e. absurd (cc e)) (λ state shown. receive-record (datagram_of (Ok got)) new state (receives state shown)) same counts decided

pub reports-failed : (old new : ScriptedLink) (error : LinkError) → error ≡ Failed
    → UnlessMemory {X = Option (Vec ℕ)} (Err error) ((state : LinkState) → Shows old state → Received-as (Err error) new state) → new.out_of_memory ≡ old.out_of_memory
    → CountsFailure {X = Option (Vec ℕ)} (Err error) old.failures new.failures → IsDecided old (Err error) → Receives old (Err Failed) new
reports-failed old new Failed is receives same counts decided = reports-other old new (Err Failed) (λ e. absurd (cc e)) receives same counts decided
reports-failed old new Memory is receives same counts decided = absurd (cc is)

pub reports-memory : (old received new : ScriptedLink) (error : LinkError) → error ≡ Memory → new.out_of_memory ≡ true
    → new.failures ≡ received.failures → CountsFailure {X = Option (Vec ℕ)} (Err error) old.failures received.failures
    → IsDecided old (Err error) → Receives old (Err Memory) new
reports-memory old received new Memory is out same counts decided = receives-memory old new out (same ∙ counts) decided
reports-memory old received new Failed is out same counts decided = absurd (cc is)
