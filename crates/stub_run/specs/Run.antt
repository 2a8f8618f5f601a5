-- Runs: what events lead to, one after another, by the definitions of the zone's server, of questions and updates over the link,
-- and of a resolver.
use Rattle.std.specs.Prelude.{◌≡◌, ◌≤◌, ◌⊎◌, ◌^◌, true, false, string_bytes, List, [], ◌∷◌, ℕ, slice_get, take, Option, Some, None, Result, Ok, Err}
use Rattle.dns_wire.specs.declared.codes.record_type.RecordType.{RecordType}
use Rattle.dns_names.specs.Name.{DomainName}
use Rattle.dns_names.specs.Parse.{name_of_text}
use Rattle.dns_text.specs.Address.{IsTextOf}
use Rattle.dns_messages.specs.declared.message.Message.{Message}
use Rattle.dns_messages.specs.declared.response_code.ResponseCode.{ResponseCode}
use Rattle.stub_lookup.specs.declared.error.NetError.{NetError}
use Rattle.stub_lookup.specs.declared.error.NetError.TheVariants as net
use Rattle.stub_client.specs.Handle.{Outcome}
use Rattle.stub_core.specs.Resolver.{ResolvesHost, ResolvesName, cleared_lookup, with_entries, with_handle}
use Rattle.stub_client.specs.declared.request.DnsRequest.{DnsRequest}
use Rattle.stub_core.specs.declared.resolver.Resolver.{Resolver}
use Rattle.stub_link.specs.AskState.{AskState, AskZone, UpdateZone, begin, begin_with_update, end}
use Rattle.stub_link.specs.LinkState.{Course, Honest, Listed}
use Rattle.stub_link.specs.Request.{IsUpdate}
use Rattle.stub_link.specs.declared.link.script.Script.{Script}
use Rattle.stub_run.specs.Event.{TakesMemory, update_of}
use Rattle.stub_run.specs.declared.event.Action.{Action}
use Rattle.stub_run.specs.declared.event.Action.TheVariants as actions
use Rattle.stub_run.specs.declared.event.Event.{Event}
use Rattle.stub_run.specs.declared.report.EventReply.{EventReply}
use Rattle.stub_run.specs.declared.report.EventReply.TheVariants as replies
use Rattle.stub_run.specs.declared.report.EventReport.{EventReport}
use Rattle.stub_run.specs.declared.report.Report.{Report}
use Rattle.stub_run.specs.declared.report.Stopped.{Stopped}
use Rattle.stub_run.specs.declared.report.Stopped.TheVariants as stops

-- ---- moments

-- moments do not go back, and none is after 2 ^ 62
abbrev pub InOrder : ℕ → List Event → Type 0
InOrder last [] = Unit {0}
InOrder last (e ∷ events) = (last ≤ e.at) × (e.at ≤ 2 ^ 62) × InOrder e.at events

-- ---- states

-- the state of a run: a resolver, and what its questions to the zone's server have led to
abbrev pub RunState : Type 0
RunState = Resolver AskState

-- what the handle of a resolver knows
abbrev pub asks_of : RunState → AskState
asks_of state = state.client.handle

-- An event begins at its moment with its script: what it asks is counted from 0, and an update has a place among the updates.
abbrev pub begin_asks : Option Message → ℕ → Script → AskState → AskState
begin_asks None at script asks = begin at script asks
begin_asks (Some update) at script asks = begin_with_update at script asks

-- an event begins on the link, and what it counts is counted from 0
abbrev pub begin_event : Event → RunState → RunState
begin_event e state = with_handle state (begin_asks (update_of e.action) e.at e.script (asks_of state))

-- An event ends: what its script has not delivered yet is delivered.
abbrev pub end_event : RunState → RunState
end_event state = with_handle state (end (asks_of state))

-- ---- one event

-- The entries for a lookup are removed from the cache. There may be no memory for the names.
abbrev pub Clears : {H : Type 0} → DomainName → RecordType → Resolver H → Result (Unit {0}) NetError → Resolver H → Type 0
Clears name kind old (Ok done) new =
    new ≡ record old { client = with_entries old.client (cleared_lookup old.settings (Ok name) kind old.client.cache.entries) }
Clears name kind old (Err net.Memory) new = new ≡ old
Clears name kind old (Err error) new = ⊥

-- A sound update is sent by the handle alone: settings and cache stay.
pub record Updates {H : Type 0} (sends : H → Message → Result ResponseCode NetError → H → Type 0) (update : Message)
    (old : Resolver H) (reply : Result ResponseCode NetError) (new : Resolver H) : Type 0 where
  pub sound : IsUpdate update
  pub sent : sends old.client.handle update reply new.client.handle
  pub rest : new ≡ with_handle old new.client.handle

-- what a resolver replies to an action at a moment, over a handle that asks questions by `gives` and updates by `sends`
abbrev pub Replies : {H : Type 0} → (H → DnsRequest → ℕ → Outcome → H → Type 0)
    → (H → Message → Result ResponseCode NetError → H → Type 0) → Resolver H → ℕ → Action → EventReply → Resolver H → Type 0
Replies gives sends old at (actions.Lookup name kind) (replies.Lookup found) new =
    ResolvesName gives at (Ok name) kind old found new
Replies gives sends old at (actions.LookupIp host) (replies.LookupIp found) new =
    ResolvesHost gives at (IsTextOf (string_bytes host)) (name_of_text (string_bytes host)) old found new
Replies gives sends old at (actions.Clear name kind) (replies.Cleared done) new = Clears name kind old done new
Replies gives sends old at actions.ClearAll (replies.Cleared done) new =
    (done ≡ Ok tt) × (new ≡ record old { client = with_entries old.client [] })
Replies gives sends old at (actions.Update update) (replies.Update reply) new = Updates sends update.value old reply new
Replies gives sends old at action reply new = ⊥

-- what a resolver replies that asks the zone's server
abbrev pub RepliesByZone : RunState → ℕ → Action → EventReply → RunState → Type 0
RepliesByZone old at action reply new =
    Replies (λ asks request now outcome after. AskZone asks request now outcome after)
    (λ asks update reply after. UpdateZone asks update reply after) old at action reply new

-- An event, its report and the state afterwards: it begins, the resolver replies, and it ends. The link and the server have not
-- run out of memory.
pub record Step (old : RunState) (e : Event) (report : EventReport) (new : RunState) : Type 0 where
  pub mid : RunState
  pub replies : RepliesByZone (begin_event e old) e.at e.action report.reply mid
  pub ends : new ≡ end_event mid
  pub faults : report.faults ≡ (asks_of new).faults
  pub questions : report.questions ≡ (asks_of new).questions
  pub memory : (asks_of new).link.out_of_memory ≡ false

-- ---- runs

-- Runs old events reports states new: event by event, with the report of each and the state after it, from the old state to the
-- new one.
abbrev pub Runs : RunState → List Event → List EventReport → List RunState → RunState → Type 0
Runs old [] [] [] new = new ≡ old
Runs old (e ∷ events) (report ∷ reports) (state ∷ states) new = Step old e report state × Runs state events reports states new
Runs old events reports states new = ⊥

-- a report of events from a state on, with the ids that were drawn and the datagrams that were dropped by then
pub record IsReportOf (first : RunState) (events : List Event) (report : Report) : Type 0 where
  pub states : List RunState
  pub last : RunState
  pub runs : Runs first events report.events.items states last
  pub sent : report.sent.items ≡ (asks_of last).sent
  pub dropped : report.dropped ≡ (asks_of last).dropped

-- nothing is left to deliver as an event ends
abbrev pub IsDelivered : Course → Type 0
IsDelivered (Honest under_way) = under_way ≡ []
IsDelivered (Listed events) = events ≡ []

-- An event during which the link or its server runs out of memory: as the event begins, if that takes memory; as the resolver
-- asks; or as the event ends, if something is left to deliver.
pub data RunsOut (old : RunState) (e : Event) : Type 0 where
  at_begin : TakesMemory e → RunsOut old e
  at_ask : (reply : EventReply) (new : RunState) → RepliesByZone (begin_event e old) e.at e.action reply new
      → (asks_of new).link.out_of_memory ≡ true → RunsOut old e
  at_end : (reply : EventReply) (new : RunState) → RepliesByZone (begin_event e old) e.at e.action reply new
      → ¬ IsDelivered (asks_of new).link.course → RunsOut old e

-- After so many events a run stops: before any event, or at the next one.
abbrev pub StopsAt : ℕ → List Event → RunState → Type 0
StopsAt count events state = (count ≡ 0) ⊎ ((e : Event) × (slice_get events count ≡ Some e) × RunsOut state e)

-- a report of the events before the one at which a run stopped
pub record IsReportBefore (first : RunState) (events : List Event) (report : Report) : Type 0 where
  pub count : ℕ
  pub reported : IsReportOf first (take count events) report
  pub stopped : StopsAt count events reported.last

-- the report of a run that ran out of memory
abbrev pub memory_report : Result Report Stopped → Option Report
memory_report (Err (stops.Memory report)) = Some report
memory_report (Err stops.Moments) = None
memory_report (Ok report) = None
