-- What the link does keeps its history, whatever is claimed of the datagrams that are sent and of the replies to them.
use Rattle.std.proofs.Common.{◌≡◌, ℕ, ◌-◌, ◌≤◌, zero, suc, Bool, true, false, cond, List, [], ◌∷◌, length, take, ◌++◌, Option, Some, None, Result, Ok, Err, refl, sym, ap, subst, ◌∙◌, arith}
use Rattle.std.specs.Prelude.{IfSome, slice_get}
use Rattle.std.specs.List.{AllByRecursion, fold}
use Rattle.std.proofs.lemmas.List.{append_assoc}
use Rattle.dns_names.specs.Name.{DomainName}
use Rattle.dns_records.specs.Rows.{Rows}
use Rattle.dns_messages.specs.Sound.{IsSound}
use Rattle.dns_messages.specs.declared.message.Message.{Message}
use Rattle.dns_messages.specs.declared.op_code.OpCode.TheVariants as ops
use Rattle.dns_zone.specs.Serving.{zone_after}
use Rattle.stub_link.specs.declared.link.LinkError.{LinkError}
use Rattle.stub_link.specs.declared.link.LinkError.TheVariants.{Failed}
use Rattle.stub_link.specs.declared.link.script.LinkEvent.{LinkEvent}
use Rattle.stub_link.specs.declared.link.script.LinkEvent.TheVariants.{Question, Update, Reply, Quiet, Fail}
use Rattle.stub_link.specs.LinkState.{Course, Honest, Listed, LinkState, Received, ServerReply, Version, deliver, deliver_event, deliver_named, deliver_rest, end_event, fail, is_applied, message_of, named_update, receive, receive_by, receive_listed, receive_reply, receives_in, send, serve, with_last, with_under_way, without_first}
use Rattle.stub_laws.specs.history.Faithful.{EachSent, EachUnderWay, HasHistory, IsMadeBy}
use Rattle.stub_laws.specs.history.Stands.{Extends, StandAt}
use Rattle.stub_laws.proofs.ServeLaws.{UpdatesKeepZones, deliver-has, each-push, each-weaker, serve-has, serve-stands}

-- ---- lists

each-get : {X : Type 0} (P : X → Type 0) (xs : List X) (n : ℕ) → AllByRecursion P xs → IfSome (slice_get xs n) P
each-get P [] n h = tt
each-get P (x ∷ xs) zero h = h.0
each-get P (x ∷ xs) (suc n) h = each-get P xs n h.1

named-get : (P : Message → Type 0) (places : List (Option Message)) (k : ℕ) → AllByRecursion (λ place. IfSome place P) places
    → IfSome (named_update (slice_get places k)) P
named-get P [] k h = tt
named-get P (place ∷ places) zero h = h.0
named-get P (place ∷ places) (suc k) h = named-get P places k h.1

each-take : {X : Type 0} (P : X → Type 0) (n : ℕ) (xs : List X) → AllByRecursion P xs → AllByRecursion P (take n xs)
each-take P zero xs h = tt
each-take P (suc n) [] h = tt
each-take P (suc n) (x ∷ xs) h = (h.0, each-take P n xs h.1)

-- ---- versions that are added

pub extends-more : (earlier history more : List Version) → Extends earlier history → Extends earlier (history ++ more)
extends-more earlier history more added =
    (added.0 ++ more, ap (λ (vs : List Version). vs ++ more) added.1 ∙ append_assoc earlier added.0 more)

-- the versions after a request, which may be an update that is applied
if-applied : (P : List Version → Type 0) (history : List Version) (v : Version) → P history → P (history ++ v ∷ []) → (applied : Bool)
    → P (cond applied (history ++ v ∷ []) history)
if-applied P history v h more true = more
if-applied P history v h more false = h

-- ---- what holds of a state within an event

-- What is claimed of replies, by the history, which goes on after earlier versions; as versions are added, it still holds.
pub record ReplyClaim : Type 1 where
  pub earlier : List Version
  pub holds : List Version → ServerReply → Type 0
  pub later : (history : List Version) (v : Version) (r : ServerReply) → holds history r → holds (history ++ v ∷ []) r

-- The link has a history at a moment; each datagram that was sent has one property, and each reply another.
pub record Holds (origin : DomainName) (now : ℕ) (D : Message → Type 0) (R : ReplyClaim) (state : LinkState) : Type 0 where
  pub history : HasHistory origin state
  pub sent : EachSent D state
  pub added : Extends R.earlier state.history
  pub replied : AllByRecursion (R.holds state.history) state.replies
  pub at_moment : state.moment ≡ now

-- it still holds, and what stood by this moment stands
pub record Still (origin : DomainName) (now : ℕ) (D : Message → Type 0) (R : ReplyClaim) (old new : LinkState) : Type 0 where
  pub holds : Holds origin now D R new
  pub stands : (moment : ℕ) (rows : Rows) → moment ≤ now → StandAt old.history moment rows → StandAt new.history moment rows

-- a datagram that was received is the message of a reply
abbrev pub IsBroughtBy : DomainName → ℕ → ReplyClaim → LinkState → Message → Type 0
IsBroughtBy origin now R state m =
    (r : ServerReply) × (limit : ℕ) × R.holds state.history r × IsMadeBy origin state.history now r × (m ≡ message_of limit r)

abbrev pub BringsReply : DomainName → ℕ → ReplyClaim → LinkState → Result (Option Message) LinkError → Type 0
BringsReply origin now R state (Ok (Some m)) = IsBroughtBy origin now R state m
BringsReply origin now R state other = Unit {0}

pub record Brings (origin : DomainName) (now : ℕ) (D : Message → Type 0) (R : ReplyClaim) (old : LinkState) (x : Received) : Type 0 where
  pub still : Still origin now D R old x.state
  pub brings : BringsReply origin now R x.state x.datagram

module _ (keep : UpdatesKeepZones) (origin : DomainName) (now : ℕ) (D : Message → Type 0) (R : ReplyClaim)
    (makes : (m : Message) (state : LinkState) → HasHistory origin state → Extends R.earlier state.history → D m
    → R.holds state.history (record { datagram = m; zone = state.zone; moment = now }))
    (sound : (m : Message) → D m → m.metadata.op_code ≡ ops.Update → IsSound m) where
  pub still-same : (state : LinkState) → Holds origin now D R state → Still origin now D R state state
  still-same state h = record { holds = h; stands = λ moment rows past stand. stand }

  pub still-then : (old mid new : LinkState) → Still origin now D R old mid → Still origin now D R mid new → Still origin now D R old new
  still-then old mid new first second = record {
    holds = second.holds;
    stands = λ moment rows past stand. second.stands moment rows past (first.stands moment rows past stand);
  }

  -- another course
  pub course-holds : (state : LinkState) (course : Course) → Holds origin now D R state → EachUnderWay D course
      → Holds origin now D R (record state { course = course })
  course-holds state course h under_way = record {
    history = record {
      zone = h.history.zone;
      origin_is = h.history.origin_is;
      versions = h.history.versions;
      current = h.history.current;
      replies = h.history.replies;
    };
    sent = record { datagrams = h.sent.datagrams; updates = h.sent.updates; under_way = under_way };
    added = h.added;
    replied = h.replied;
    at_moment = h.at_moment;
  }

  course-still : (state : LinkState) (course : Course) → Holds origin now D R state → EachUnderWay D course
      → Still origin now D R state (record state { course = course })
  course-still state course h under_way = record { holds = course-holds state course h under_way; stands = λ moment rows past stand. stand }

  -- ---- deliveries

  -- what is claimed of a reply still is after a request
  pub served-holds : (m : Message) (state : LinkState) (r : ServerReply) → R.holds state.history r → R.holds (serve m state).history r
  served-holds m state r held =
      if-applied (λ (h : List Version). R.holds h r) state.history (record { moment = state.moment; rows = (zone_after state.zone m).rows })
      held (R.later state.history (record { moment = state.moment; rows = (zone_after state.zone m).rows }) r held) (is_applied state.zone m)

  served-added : (m : Message) (state : LinkState) → Extends R.earlier state.history → Extends R.earlier (serve m state).history
  served-added m state added =
      if-applied (Extends R.earlier) state.history (record { moment = state.moment; rows = (zone_after state.zone m).rows })
      added (extends-more R.earlier state.history _ added) (is_applied state.zone m)

  pub serve-still : (m : Message) (state : LinkState) → D m → Holds origin now D R state → Still origin now D R state (serve m state)
  serve-still m state d h = record {
    holds = record {
      history = serve-has keep origin m (sound m d) state h.history;
      sent = record { datagrams = h.sent.datagrams; updates = h.sent.updates; under_way = h.sent.under_way };
      added = served-added m state h.added;
      replied = each-weaker (R.holds state.history) (R.holds (serve m state).history) (λ r held. served-holds m state r held) state.replies
          h.replied;
      at_moment = h.at_moment;
    };
    stands = λ moment rows past stand.
        serve-stands keep origin m (sound m d) state h.history moment rows (let at : state.moment ≡ now = h.at_moment in omega arith) stand;
  }

  pub deliver-still : (m : Message) (state : LinkState) → D m → Holds origin now D R state → Still origin now D R state (deliver m state)
  deliver-still m state d h = record {
    holds = record {
      history = deliver-has keep origin m (sound m d) state h.history;
      sent = record { datagrams = h.sent.datagrams; updates = h.sent.updates; under_way = h.sent.under_way };
      added = served-added m state h.added;
      replied = (
        served-holds m state (record { datagram = m; zone = state.zone; moment = state.moment })
            (subst (λ (t : ℕ). R.holds state.history (record { datagram = m; zone = state.zone; moment = t })) (sym h.at_moment)
            (makes m state h.history h.added d)),
        (serve-still m state d h).holds.replied,
      );
      at_moment = h.at_moment;
    };
    stands = (serve-still m state d h).stands;
  }

  named-still : (m : Option Message) (state : LinkState) → IfSome m D → Holds origin now D R state → Still origin now D R state (deliver_named m state)
  named-still (Some m) state d h = deliver-still m state d h
  named-still None state d h = still-same state h

  pub event-still : (event : LinkEvent) (state : LinkState) → Holds origin now D R state → Still origin now D R state (deliver_event state event)
  event-still (Question n) state h = named-still (slice_get state.datagrams n) state (each-get D state.datagrams n h.sent.datagrams) h
  event-still (Update k) state h = named-still (named_update (slice_get state.updates k)) state (named-get D state.updates k h.sent.updates) h
  event-still (Reply n) state h = still-same state h
  event-still Quiet state h = still-same state h
  event-still Fail state h = still-same state h

  -- ---- the end of an event

  listed-still : (events : List LinkEvent) (state : LinkState) → Holds origin now D R state → Still origin now D R state (fold deliver_event state events)
  listed-still [] state h = still-same state h
  listed-still (event ∷ events) state h =
      let first = event-still event state h in
      still-then state (deliver_event state event) (fold deliver_event (deliver_event state event) events) first
      (listed-still events (deliver_event state event) first.holds)

  honest-still : (under_way : List Message) (state : LinkState) → AllByRecursion D under_way → Holds origin now D R state
      → Still origin now D R state (fold (λ s m. deliver m s) state under_way)
  honest-still [] state d h = still-same state h
  honest-still (m ∷ under_way) state d h =
      let first = deliver-still m state d.0 h in
      still-then state (deliver m state) (fold (λ s m. deliver m s) (deliver m state) under_way) first
      (honest-still under_way (deliver m state) d.1 first.holds)

  rest-still : (course : Course) (state : LinkState) → EachUnderWay D course → Holds origin now D R state
      → Still origin now D R state (deliver_rest course (record state { course = Honest [] }))
  rest-still (Honest under_way) state d h =
      let first = course-still state (Honest []) h tt in
      still-then state (record state { course = Honest [] }) (fold (λ s m. deliver m s) (record state { course = Honest [] }) under_way) first
      (honest-still under_way (record state { course = Honest [] }) d first.holds)
  rest-still (Listed events) state d h =
      let first = course-still state (Honest []) h tt in
      still-then state (record state { course = Honest [] }) (fold deliver_event (record state { course = Honest [] }) events) first
      (listed-still events (record state { course = Honest [] }) first.holds)

  pub end-still : (state : LinkState) → Holds origin now D R state → Still origin now D R state (end_event state)
  end-still state h = rest-still state.course state h.sent.under_way h

  -- ---- sending

  under-way-more : (m : Message) (course : Course) → D m → EachUnderWay D course → EachUnderWay D (with_under_way m course)
  under-way-more m (Honest under_way) d h = each-push D under_way m h d
  under-way-more m (Listed events) d h = tt

  under-way-less : (course : Course) → EachUnderWay D course → EachUnderWay D (without_first course)
  under-way-less (Honest under_way) h = h
  under-way-less (Listed []) h = tt
  under-way-less (Listed (event ∷ events)) h = tt

  pub fail-still : (state : LinkState) → Holds origin now D R state → Still origin now D R state (fail state)
  fail-still state h = course-still state (without_first state.course) h (under-way-less state.course h.sent.under_way)

  pub send-still : (m : Message) (state : LinkState) → D m → Holds origin now D R state → Still origin now D R state (send m state)
  send-still m state d h = by state.is_update
    where
      history : HasHistory origin state
      history = h.history

      by : (b : Bool) → Still origin now D R state (cond b
          (record state { course = with_under_way m state.course; updates = with_last (Some m) state.updates })
          (record state { course = with_under_way m state.course; datagrams = m ∷ state.datagrams }))
      by true = record {
        holds = record {
          history = record {
            zone = history.zone;
            origin_is = history.origin_is;
            versions = history.versions;
            current = history.current;
            replies = history.replies;
          };
          sent = record {
            datagrams = h.sent.datagrams;
            updates = each-push (λ (place : Option Message). IfSome place D) (take (length state.updates - 1) state.updates) (Some m)
                (each-take (λ (place : Option Message). IfSome place D) (length state.updates - 1) state.updates h.sent.updates) d;
            under_way = under-way-more m state.course d h.sent.under_way;
          };
          added = h.added;
          replied = h.replied;
          at_moment = h.at_moment;
        };
        stands = λ moment rows past stand. stand;
      }
      by false = record {
        holds = record {
          history = record {
            zone = history.zone;
            origin_is = history.origin_is;
            versions = history.versions;
            current = history.current;
            replies = history.replies;
          };
          sent = record {
            datagrams = (d, h.sent.datagrams);
            updates = h.sent.updates;
            under_way = under-way-more m state.course d h.sent.under_way;
          };
          added = h.added;
          replied = h.replied;
          at_moment = h.at_moment;
        };
        stands = λ moment rows past stand. stand;
      }

  -- ---- receives

  received-here : (datagram : Result (Option Message) LinkError) (events : List LinkEvent) (state : LinkState) → Holds origin now D R state
      → BringsReply origin now R state datagram → Brings origin now D R state (receives_in datagram (Listed events) state)
  received-here (Ok (Some m)) events state h brings = record { still = course-still state (Listed events) h tt; brings = brings }
  received-here (Ok None) events state h brings = record { still = course-still state (Listed events) h tt; brings = tt }
  received-here (Err error) events state h brings = record { still = course-still state (Listed events) h tt; brings = tt }

  received-then : (old mid : LinkState) (x : Received) → Still origin now D R old mid → Brings origin now D R mid x → Brings origin now D R old x
  received-then old mid x first rest = record { still = still-then old mid x.state first rest.still; brings = rest.brings }

  both-each : {X : Type 0} (P Q : X → Type 0) (xs : List X) (n : ℕ) → AllByRecursion P xs → AllByRecursion Q xs → IfSome (slice_get xs n) (λ x. P x × Q x)
  both-each P Q [] n h i = tt
  both-each P Q (x ∷ xs) zero h i = (h.0, i.0)
  both-each P Q (x ∷ xs) (suc n) h i = both-each P Q xs n h.1 i.1

  made-now : (state : LinkState) (r : ServerReply) → state.moment ≡ now → IsMadeBy origin state.history state.moment r → IsMadeBy origin state.history now r
  made-now state r at made = subst (λ (t : ℕ). IsMadeBy origin state.history t r) at made

  listed-receives : (events : List LinkEvent) (state : LinkState) → Holds origin now D R state → Brings origin now D R state (receive_listed events state)
  listed-receives [] state h = received-here (Ok None) [] state h tt
  listed-receives (Quiet ∷ events) state h = received-here (Ok None) events state h tt
  listed-receives (Fail ∷ events) state h = received-here (Err Failed) events state h tt
  listed-receives (Reply n ∷ events) state h =
      by (slice_get state.replies n) (both-each (R.holds state.history) (IsMadeBy origin state.history state.moment) state.replies n h.replied h.history.replies)
      (listed-receives events state h)
    where
      by : (o : Option ServerReply) → IfSome o (λ r. R.holds state.history r × IsMadeBy origin state.history state.moment r)
          → Brings origin now D R state (receive_listed events state)
          → Brings origin now D R state (receive_reply o events state (receive_listed events state))
      by (Some r) is rest =
          received-here (Ok (Some (message_of state.limit r))) events state h (r, state.limit, is.0, made-now state r h.at_moment is.1, refl)
      by None is rest = rest
  listed-receives (Question n ∷ events) state h =
      let first = event-still (Question n) state h in
      received-then state (deliver_event state (Question n)) (receive_listed events (deliver_event state (Question n))) first
      (listed-receives events (deliver_event state (Question n)) first.holds)
  listed-receives (Update k ∷ events) state h =
      let first = event-still (Update k) state h in
      received-then state (deliver_event state (Update k)) (receive_listed events (deliver_event state (Update k))) first
      (listed-receives events (deliver_event state (Update k)) first.holds)

  receives-by : (course : Course) (state : LinkState) → EachUnderWay D course → Holds origin now D R state → Brings origin now D R state (receive_by course state)
  receives-by (Honest []) state d h = record { still = course-still state (Honest []) h tt; brings = tt }
  receives-by (Honest (m ∷ under_way)) state d h =
      let first = deliver-still m state d.0 h in
      let then' = course-still (deliver m state) (Honest under_way) first.holds d.1 in
      let made = first.holds.history.replies.0 in
      record {
        still = still-then state (deliver m state) (record (deliver m state) { course = Honest under_way }) first then';
        brings = (
          record { datagram = m; zone = state.zone; moment = state.moment },
          state.limit,
          first.holds.replied.0,
          made-now (deliver m state) (record { datagram = m; zone = state.zone; moment = state.moment }) h.at_moment made,
          refl,
        );
      }
  receives-by (Listed events) state d h = listed-receives events state h

  pub receive-still : (state : LinkState) → Holds origin now D R state → Brings origin now D R state (receive state)
  receive-still state h = receives-by state.course state h.sent.under_way h
