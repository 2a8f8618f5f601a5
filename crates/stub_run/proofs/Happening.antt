-- One event: how it begins, what it leads to on the states, how it ends, and that ids are only appended.
use Rattle.std.proofs.Common.{◌≡◌, Bool, true, false, map, reverse, IsOk, ℕ, List, [], ◌∷◌, Option, Some, None, Result, Ok, Err, OnOk, OnErr, slice_get, refl, sym, ap, subst, ◌∙◌}
use Rattle.std.specs.List.{fold, list_any}
use Rattle.std.specs.declared.alloc.AllocError.{AllocError}
use Rattle.std.specs.Global.{Vec}
use Rattle.std.proofs.lemmas.List.{reverse-reverse}
use Rattle.dns_messages.specs.declared.message.Message.{Message}
use Rattle.dns_messages.specs.declared.response_code.ResponseCode.{ResponseCode}
use Rattle.stub_lookup.specs.declared.error.NetError.{NetError}
use Rattle.stub_client.specs.Handle.{Outcome}
use Rattle.stub_core.specs.Resolver.{with_handle}
use Rattle.stub_client.specs.declared.request.DnsRequest.{DnsRequest}
use Rattle.stub_core.specs.declared.resolver.Resolver.{Resolver}
use Rattle.stub_link.specs.AskState.{AskState, AskZone, UpdateZone, end}
use Rattle.stub_link.specs.LinkState.{Course, Honest, Listed, LinkState, deliver, deliver_event, deliver_named, deliver_rest, begin_event as begin_link_event, begin_update as begin_link_update, end_event as end_link, is_delivery, named_update}
use Rattle.stub_link.specs.Request.{IsUpdate}
use Rattle.stub_link.specs.ScriptedLink.{AreRelated, IsAt, IsBegun, IsCourse, IsDelivered as IsLinkDelivered, IsEnded, IsListed, IsRequest, Receives, Sends, Streams, bytes_of, is_out_of_memory}
use Rattle.stub_link.specs.WireHandle.{Asks, IsIn, SendsUpdate, with_link}
use Rattle.stub_link.specs.declared.link.script.LinkEvent.{LinkEvent}
use Rattle.stub_link.specs.declared.link.script.LinkEvent.TheVariants as does
use Rattle.stub_link.specs.declared.link.script.Script.{Script}
use Rattle.stub_link.specs.declared.link.scripted.ScriptedLink.{ScriptedLink}
use Rattle.stub_link.specs.declared.wire_handle.WireHandle.{WireHandle}
use Rattle.stub_run.specs.Alike.{AreAlike}
use Rattle.stub_run.specs.Event.{TakesMemory, update_of}
use Rattle.stub_run.specs.RunOver.{BeginsOver, EndsOver, LinkRules, RunsOutOver, StepOver, begun_handle, link_is_out, no_beginning, no_end, rules_of}
use Rattle.stub_run.specs.ScriptedEvents.{Begins as LinkBegins, begin_link}
use Rattle.stub_run.specs.Run.{IsDelivered, Replies, RepliesByZone, RunState, RunsOut, Step, asks_of, at_ask, at_begin, at_end, begin_asks, begin_event, end_event}
use Rattle.stub_run.specs.declared.event.Event.{Event}
use Rattle.stub_run.specs.declared.report.EventReply.{EventReply}
use Rattle.stub_run.specs.declared.report.EventReport.{EventReport}
use Rattle.stub_run.proofs.Alike.{Carries, CarriesUpdates, replies-alike}

-- handles over the scripted link, and resolvers over these
abbrev pub Handle : Type 0
Handle = WireHandle ScriptedLink

abbrev pub WireResolver : Type 0
WireResolver = Resolver Handle

-- a handle over the scripted link is asked, and the zone of its server is
abbrev pub AsksLink : Handle → DnsRequest → ℕ → Outcome → Handle → Type 0
AsksLink old request now outcome new = Asks Sends Receives Streams (λ link. link.failures) old request now outcome new

abbrev pub AsksServer : AskState → DnsRequest → ℕ → Outcome → AskState → Type 0
AsksServer old request now outcome new = AskZone old request now outcome new

-- a handle over the scripted link sends an update, and the zone of its server takes it
abbrev pub UpdatesLink : Handle → Message → Result ResponseCode NetError → Handle → Type 0
UpdatesLink old update reply new = SendsUpdate Sends Receives Streams (λ link. link.failures) old update reply new

abbrev pub UpdatesServer : AskState → Message → Result ResponseCode NetError → AskState → Type 0
UpdatesServer old update reply new = UpdateZone old update reply new

abbrev pub IsInState : Handle → AskState → Type 0
IsInState handle asks = IsIn handle asks

-- what the scripted link does
abbrev pub scripted_rules : LinkRules ScriptedLink
scripted_rules = rules_of LinkBegins IsEnded is_out_of_memory Sends Receives Streams (λ link. link.failures)

-- ---- an event begins

-- a state in which an event begins, with the link's state as it is then
abbrev begun_asks : AskState → LinkState → AskState
begun_asks asks link = record asks { link = link; faults = 0; questions = 0 }

begins-in : (handle : Handle) (link : ScriptedLink) (asks : AskState) (next : LinkState)
    → next.out_of_memory ≡ asks.link.out_of_memory → IsAt link next → IsIn handle asks → IsIn (begun_handle handle link) (begun_asks asks next)
begins-in handle link asks next memory at h = record {
  link = at;
  shows = λ quiet.
      let shown = h.shows (h.link.memory ∙ sym memory ∙ sym at.memory ∙ quiet) in
      record { ids = shown.ids; sent = shown.sent; dropped = shown.dropped; faults = refl; questions = refl };
}

-- from each state that a resolver is in, an event leads to the state in which it begins
abbrev pub Begins : WireResolver → Event → WireResolver → Type 0
Begins old e new = (state : RunState) → AreAlike IsInState old state → AreAlike IsInState new (begin_event e state)

-- an event begins on the link, and nothing is counted yet
begin-by-link : (update : Option Message) (at : ℕ) (script : Script) (asks : AskState)
    → begin_asks update at script asks ≡ begun_asks asks (begin_link update at script asks.link)
begin-by-link None at script asks = refl
begin-by-link (Some update) at script asks = refl

begin-memory : (update : Option Message) (at : ℕ) (script : Script) (state : LinkState)
    → (begin_link update at script state).out_of_memory ≡ state.out_of_memory
begin-memory None at script state = refl
begin-memory (Some update) at script state = refl

-- a resolver whose handle is alike
alike-with : (resolver : WireResolver) (handle : Handle) (state : RunState) (asks : AskState) → AreAlike IsInState resolver state
    → IsIn handle asks → AreAlike IsInState (with_handle resolver handle) (with_handle state asks)
alike-with resolver handle state asks alike h = record {
  settings = alike.settings;
  client = record { handle = h; cache = alike.client.cache; aliases = alike.client.aliases };
}

-- an event begins over the scripted link, from each state that the resolver is in
begins-alike : (old new : WireResolver) (e : Event) → BeginsOver scripted_rules old e new → Begins old e new
begins-alike old new e b = λ state alike.
    let asks = asks_of state in
    let link = new.client.handle.link in
    let update : Option Message = update_of e.action in
    let begun : LinkState = begin_link update e.at e.script asks.link in
    let at : IsAt link begun = b.link asks.link alike.client.handle.link in
    subst (λ (r : WireResolver). AreAlike IsInState r (begin_event e state)) (sym b.rest)
    (subst (λ (a : AskState). AreAlike IsInState (with_handle old (begun_handle old.client.handle link)) (with_handle state a))
    (sym (begin-by-link update e.at e.script asks))
    (alike-with old (begun_handle old.client.handle link) state (begun_asks asks begun) alike
    (begins-in old.client.handle link asks begun (begin-memory update e.at e.script asks.link) at alike.client.handle)))

-- ---- events of the scripted link

pub begun-other : (old new : ScriptedLink) (e : Event) (result : Result (Unit {0}) AllocError) → update_of e.action ≡ None
    → IsBegun old result new (λ moment state. begin_link_event moment e.script state) → OnOk result (LinkBegins old e new)
begun-other old new e (Ok done) none b = λ state at.
    subst (λ (update : Option Message). IsAt new (begin_link update e.at e.script state)) (sym none) (b.begins e.at state at)
begun-other old new e (Err error) none b = tt

pub begun-update : (old new : ScriptedLink) (e : Event) (m : Message) (result : Result (Unit {0}) AllocError)
    → update_of e.action ≡ Some m → IsBegun old result new (λ moment state. begin_link_update moment e.script state)
    → OnOk result (LinkBegins old e new)
begun-update old new e m (Ok done) is-update b = λ state at.
    subst (λ (update : Option Message). IsAt new (begin_link update e.at e.script state)) (sym is-update) (b.begins e.at state at)
begun-update old new e m (Err error) is-update b = tt

-- only a listed script, or an update, takes memory
pub takes-other : (e : Event) (result : Result (Unit {0}) AllocError) → OnErr result (IsListed e.script) → OnErr result (TakesMemory e)
takes-other e (Ok done) h = tt
takes-other e (Err error) h = λ none. h

pub takes-update : (e : Event) (m : Message) (result : Result (Unit {0}) AllocError) → update_of e.action ≡ Some m
    → OnErr result (TakesMemory e)
takes-update e m (Ok done) is-update = tt
takes-update e m (Err error) is-update = λ none. absurd (cc)

-- ---- an event ends

named-memory : (m : Option Message) (state : LinkState) → (deliver_named m state).out_of_memory ≡ state.out_of_memory
named-memory None state = refl
named-memory (Some m) state = refl

event-memory : (e : LinkEvent) (state : LinkState) → (deliver_event state e).out_of_memory ≡ state.out_of_memory
event-memory (does.Question n) state = named-memory (slice_get state.datagrams n) state
event-memory (does.Update k) state = named-memory (named_update (slice_get state.updates k)) state
event-memory (does.Reply n) state = refl
event-memory does.Quiet state = refl
event-memory does.Fail state = refl

listed-memory : (events : List LinkEvent) (state : LinkState) → (fold deliver_event state events).out_of_memory ≡ state.out_of_memory
listed-memory [] state = refl
listed-memory (e ∷ events) state = listed-memory events (deliver_event state e) ∙ event-memory e state

honest-memory : (under_way : List Message) (state : LinkState)
    → (fold (λ now m. deliver m now) state under_way).out_of_memory ≡ state.out_of_memory
honest-memory [] state = refl
honest-memory (m ∷ under_way) state = honest-memory under_way (deliver m state)

rest-memory : (course : Course) (state : LinkState) → (deliver_rest course state).out_of_memory ≡ state.out_of_memory
rest-memory (Honest under_way) state = honest-memory under_way state
rest-memory (Listed events) state = listed-memory events state

-- the end of an event reports its want of memory
pub end-memory : (state : LinkState) → (end_link state).out_of_memory ≡ state.out_of_memory
end-memory state = rest-memory state.course (record state { course = Honest [] })

ends-in : (handle : Handle) (link : ScriptedLink) (asks : AskState) → IsAt link (end_link asks.link) → IsIn handle asks
    → IsIn (record handle { link = link }) (end asks)
ends-in handle link asks at h = record {
  link = at;
  shows = λ quiet.
      let shown = h.shows (h.link.memory ∙ sym (end-memory asks.link) ∙ sym at.memory ∙ quiet) in
      record { ids = shown.ids; sent = shown.sent; dropped = shown.dropped; faults = shown.faults; questions = shown.questions };
}

-- from each state that a resolver is in, the end of an event leads to the state after it
abbrev pub Ends : WireResolver → WireResolver → Type 0
Ends old new = (state : RunState) → AreAlike IsInState old state → AreAlike IsInState new (end_event state)

ends-alike : (old new : WireResolver) → EndsOver scripted_rules old (Ok tt) new → Ends old new
ends-alike old new e = λ state alike.
    let link = new.client.handle.link in
    subst (λ (r : WireResolver). AreAlike IsInState r (end_event state)) (sym e.rest)
    (alike-with old (with_link old.client.handle link) state (end (asks_of state)) alike
    (ends-in old.client.handle link (asks_of state) (e.link.ends (asks_of state).link alike.client.handle.link) alike.client.handle))

none-related : {A B : Type 0} (R : A → B → Type 0) (xs : List A) → AreRelated R xs [] → xs ≡ []
none-related R [] h = refl
none-related R (x ∷ xs) h = absurd h

none-mapped : {A B : Type 0} (f : A → B) (xs : List A) → map f xs ≡ [] → xs ≡ []
none-mapped f [] h = refl
none-mapped f (x ∷ xs) h = absurd (cc h)

-- no event delivers where there are none
none-delivers : (events : List LinkEvent) → events ≡ [] → list_any is_delivery events ≡ false
none-delivers events none = ap (λ (es : List LinkEvent). list_any is_delivery es) none

-- where nothing is left of a course, nothing is left on the link
course-delivered : (link : ScriptedLink) (course : Course) → IsCourse link course → IsDelivered course → IsLinkDelivered link
course-delivered link (Honest under_way) is none = (
  none-mapped (λ (bytes : Vec ℕ). bytes.items) link.under_way.items
      (none-related IsRequest (bytes_of link.under_way) (subst (AreRelated IsRequest (bytes_of link.under_way)) none is.1)),
  none-delivers link.events.items is.2,
)
course-delivered link (Listed events) is none =
    let empty : link.events.items ≡ [] = sym (reverse-reverse link.events.items) ∙ ap (λ (es : List LinkEvent). reverse es) (is.2 ∙ none) in
    (is.1, none-delivers link.events.items empty)

-- ---- what an event leads to

-- what a handle over the scripted link does, the zone of its server does
pub record AsksAndUpdates : Type 0 where
  pub carries : Carries IsInState AsksLink AsksServer
  pub carries_updates : CarriesUpdates IsInState UpdatesLink UpdatesServer

-- an event begins, and the resolver replies
pub record Happens (old : WireResolver) (e : Event) (reply : EventReply) (begun replied : WireResolver) : Type 0 where
  pub laws : AsksAndUpdates
  pub begins : Begins old e begun
  pub replies : Replies AsksLink UpdatesLink begun e.at e.action reply replied

-- the laws of a handle over the scripted link
abbrev pub AskLaw : Type 0
AskLaw =
    (failure_count : ScriptedLink → ℕ) (old new : Handle) (state : AskState) (request : DnsRequest) (now : ℕ) (outcome : Outcome)
    → IsIn old state → Asks Sends Receives Streams failure_count old request now outcome new
    → (after : AskState) × IsIn new after × AskZone state request now outcome after

abbrev pub UpdateLaw : Type 0
UpdateLaw =
    (failure_count : ScriptedLink → ℕ) (old new : Handle) (state : AskState) (update : Message) (reply : Result ResponseCode NetError)
    → IsIn old state → IsUpdate update → SendsUpdate Sends Receives Streams failure_count old update reply new
    → (after : AskState) × IsIn new after × UpdateZone state update reply after

pub happened : (old begun replied : WireResolver) (e : Event) (reply : EventReply) → AskLaw → UpdateLaw → Begins old e begun
    → Replies AsksLink UpdatesLink begun e.at e.action reply replied → Happens old e reply begun replied
happened old begun replied e reply asks updates begins replies = record {
  laws = record { carries = asks (λ link. link.failures); carries_updates = updates (λ link. link.failures) };
  begins = begins;
  replies = replies;
}

-- a state that a resolver is in after the reply to an event
abbrev RepliedIn : RunState → Event → EventReply → WireResolver → Type 0
RepliedIn state e reply replied =
    (after : RunState) × AreAlike IsInState replied after × RepliesByZone (begin_event e state) e.at e.action reply after

replied-in : (old begun replied : WireResolver) (e : Event) (reply : EventReply) → Happens old e reply begun replied
    → (state : RunState) → AreAlike IsInState old state → RepliedIn state e reply replied
replied-in old begun replied e reply happens state alike =
    replies-alike IsInState AsksLink AsksServer UpdatesLink UpdatesServer happens.laws.carries happens.laws.carries_updates
    begun replied e.at e.action reply (begin_event e state) (happens.begins state alike) happens.replies

-- the report of an event is that of a resolver at its end, which has not run out of memory
pub record Reports (e : EventReply) (report : EventReport) (ended : WireResolver) : Type 0 where
  pub is : report ≡ record { reply = e; faults = ended.client.handle.faults; questions = ended.client.handle.questions }
  pub quiet : ended.client.handle.link.out_of_memory ≡ false

-- from each state that a resolver is in, an event with this report leads to a state that it is in afterwards
abbrev pub Leads : WireResolver → Event → EventReport → WireResolver → Type 0
Leads old e report new =
    (state : RunState) → AreAlike IsInState old state → (after : RunState) × AreAlike IsInState new after × Step state e report after

pub happens-step : (old begun replied ended : WireResolver) (e : Event) (reply : EventReply) (report : EventReport)
    → Happens old e reply begun replied → Ends replied ended → Reports reply report ended → Leads old e report ended
happens-step old begun replied ended e reply report happens ends reports = λ state alike.
    let led = replied-in old begun replied e reply happens state alike in
    let last = ends led.0 led.1 in
    let shown = last.client.handle.shows reports.quiet in (
      end_event led.0,
      last,
      record {
        mid = led.0;
        replies = subst (λ (r : EventReport). RepliesByZone (begin_event e state) e.at e.action r.reply led.0) (sym reports.is) led.2;
        ends = refl;
        faults = ap (λ (r : EventReport). r.faults) reports.is ∙ shown.faults;
        questions = ap (λ (r : EventReport). r.questions) reports.is ∙ shown.questions;
        memory = sym last.client.handle.link.memory ∙ reports.quiet;
      },
    )

-- an event during which the link or its server runs out of memory, as it asks or as it ends
abbrev pub LeadsOut : WireResolver → Event → Type 0
LeadsOut old e = (state : RunState) → AreAlike IsInState old state → RunsOut state e

pub happens-out : (old begun replied ended : WireResolver) (e : Event) (reply : EventReply) → Happens old e reply begun replied
    → Ends replied ended → ended.client.handle.link.out_of_memory ≡ true → LeadsOut old e
happens-out old begun replied ended e reply happens ends out = λ state alike.
    let led = replied-in old begun replied e reply happens state alike in
    let last = ends led.0 led.1 in
    at_ask reply led.0 led.2 (sym (end-memory (asks_of led.0).link) ∙ sym last.client.handle.link.memory ∙ out)

pub happens-unended : (old begun replied : WireResolver) (e : Event) (reply : EventReply) → Happens old e reply begun replied
    → ¬ IsLinkDelivered replied.client.handle.link → LeadsOut old e
happens-unended old begun replied e reply happens left =
    λ state alike.
    by state (replied-in old begun replied e reply happens state alike) replied.client.handle.link.out_of_memory refl
  where
    by : (state : RunState) → RepliedIn state e reply replied → (b : Bool) → replied.client.handle.link.out_of_memory ≡ b → RunsOut state e
    by state led true out = at_ask reply led.0 led.2 (sym led.1.client.handle.link.memory ∙ out)
    by state led false quiet =
        at_end reply led.0 led.2
        (λ none. left (course-delivered replied.client.handle.link (asks_of led.0).link.course
        (led.1.client.handle.link.shows quiet).course none))

-- ---- from runs over the scripted link

abbrev failed : AllocError → Result (Unit {0}) AllocError
failed error = Err error

pub step-alike : AskLaw → UpdateLaw → (old new : WireResolver) (e : Event) (report : EventReport)
    → StepOver scripted_rules old e report new → Leads old e report new
step-alike asks updates old new e report s =
    let h = s.happens in
    happens-step old h.begun s.replied new e report.reply report
    (happened old h.begun s.replied e report.reply asks updates (begins-alike old h.begun e h.begins) h.replies)
    (ends-alike s.replied new s.ends)
    (record {
      is =
          ap (λ (n : ℕ). record { reply = report.reply; faults = n; questions = report.questions }) s.faults
          ∙ ap (λ (n : ℕ). record { reply = report.reply; faults = new.client.handle.faults; questions = n }) s.questions;
      quiet = s.memory;
    })

not-ok : (error : AllocError) → IsOk (failed error) → ⊥
not-ok error ok = cc ok

pub out-alike : AskLaw → UpdateLaw → (old : WireResolver) (e : Event) → RunsOutOver scripted_rules old e → LeadsOut old e
out-alike asks updates old e (no_beginning takes) = λ state alike. at_begin takes
out-alike asks updates old e (no_end reply replied new error h ends) =
    happens-unended old h.begun replied e reply
    (happened old h.begun replied e reply asks updates (begins-alike old h.begun e h.begins) h.replies)
    (λ none. not-ok error (ends.link.decided none))
out-alike asks updates old e (link_is_out reply replied new h ends out) =
    happens-out old h.begun replied new e reply
    (happened old h.begun replied e reply asks updates (begins-alike old h.begun e h.begins) h.replies) (ends-alike replied new ends) out
