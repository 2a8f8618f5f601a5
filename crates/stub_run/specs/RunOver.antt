-- Runs over any link: what happens to a resolver whose handle asks over it, event by event, and how that is reported.
use Rattle.std.specs.Prelude.{◌≡◌, ◌⊎◌, false, true, Bool, List, [], ◌∷◌, ℕ, Option, Some, Result, Ok, Err, take, slice_get}
use Rattle.std.specs.Global.{Vec}
use Rattle.std.specs.declared.alloc.AllocError.{AllocError}
use Rattle.dns_messages.specs.declared.message.Message.{Message}
use Rattle.dns_messages.specs.declared.query.Query.{Query}
use Rattle.dns_messages.specs.declared.response_code.ResponseCode.{ResponseCode}
use Rattle.stub_lookup.specs.declared.error.NetError.{NetError}
use Rattle.stub_client.specs.Handle.{Outcome}
use Rattle.stub_client.specs.declared.request.DnsRequest.{DnsRequest}
use Rattle.stub_core.specs.Resolver.{with_handle}
use Rattle.stub_core.specs.declared.resolver.Resolver.{Resolver}
use Rattle.stub_link.specs.WireHandle.{Asks, SendsUpdate, with_link}
use Rattle.stub_link.specs.declared.link.LinkError.{LinkError}
use Rattle.stub_link.specs.declared.wire_handle.WireHandle.{WireHandle}
use Rattle.stub_run.specs.Event.{TakesMemory}
use Rattle.stub_run.specs.Run.{Replies}
use Rattle.stub_run.specs.declared.event.Event.{Event}
use Rattle.stub_run.specs.declared.report.EventReply.{EventReply}
use Rattle.stub_run.specs.declared.report.EventReport.{EventReport}
use Rattle.stub_run.specs.declared.report.Report.{Report}

-- ---- what a link does

-- How events begin on a link, with which results they end, whether it has run out of memory, and what a handle over it does.
pub record LinkRules (L : Type 0) : Type 1 where
  pub begins : L → Event → L → Type 0
  pub ends : L → Result (Unit {0}) AllocError → L → Type 0
  pub is_out : L → Bool
  pub asks : WireHandle L → DnsRequest → ℕ → Outcome → WireHandle L → Type 0
  pub updates : WireHandle L → Message → Result ResponseCode NetError → WireHandle L → Type 0

-- the rules of a link by its relations, with the handle that asks and updates over it
abbrev pub rules_of : {L : Type 0} → (L → Event → L → Type 0) → (L → Result (Unit {0}) AllocError → L → Type 0) → (L → Bool)
    → (L → List ℕ → Result (Unit {0}) LinkError → L → Type 0) → (L → Result (Option (List ℕ)) LinkError → L → Type 0)
    → (L → List ℕ → Result (List ℕ) LinkError → L → Type 0) → (L → ℕ) → LinkRules L
rules_of begins ends is_out sends receives streams failure_count = record {
  begins = begins;
  ends = ends;
  is_out = is_out;
  asks = Asks sends receives streams failure_count;
  updates = SendsUpdate sends receives streams failure_count;
}

-- ---- one event

-- the handle as an event begins, with its link as it is then: what it asks is counted from 0
abbrev pub begun_handle : {L : Type 0} → WireHandle L → L → WireHandle L
begun_handle handle link = record handle { link = link; faults = 0; questions = 0 }

-- An event begins: only the link and the counts of the handle change.
pub record BeginsOver {L : Type 0} (rules : LinkRules L) (old : Resolver (WireHandle L)) (e : Event)
    (new : Resolver (WireHandle L)) : Type 0 where
  pub link : rules.begins old.client.handle.link e new.client.handle.link
  pub rest : new ≡ with_handle old (begun_handle old.client.handle new.client.handle.link)

-- An event ends with this result: only the link changes.
pub record EndsOver {L : Type 0} (rules : LinkRules L) (old : Resolver (WireHandle L)) (result : Result (Unit {0}) AllocError)
    (new : Resolver (WireHandle L)) : Type 0 where
  pub link : rules.ends old.client.handle.link result new.client.handle.link
  pub rest : new ≡ with_handle old (with_link old.client.handle new.client.handle.link)

-- An event begins, and the resolver replies to it.
pub record Happens {L : Type 0} (rules : LinkRules L) (old : Resolver (WireHandle L)) (e : Event) (reply : EventReply)
    (new : Resolver (WireHandle L)) : Type 0 where
  pub begun : Resolver (WireHandle L)
  pub begins : BeginsOver rules old e begun
  pub replies : Replies rules.asks rules.updates begun e.at e.action reply new

-- An event, its report and the resolver afterwards: it begins, the resolver replies, and it ends. The link has not run out of
-- memory.
pub record StepOver {L : Type 0} (rules : LinkRules L) (old : Resolver (WireHandle L)) (e : Event) (report : EventReport)
    (new : Resolver (WireHandle L)) : Type 0 where
  pub replied : Resolver (WireHandle L)
  pub happens : Happens rules old e report.reply replied
  pub ends : EndsOver rules replied (Ok tt) new
  pub faults : report.faults ≡ new.client.handle.faults
  pub questions : report.questions ≡ new.client.handle.questions
  pub memory : rules.is_out new.client.handle.link ≡ false

-- An event during which memory runs out: as it begins, if that takes memory; as it ends, by an error of the link; or before its end,
-- as the link says.
pub data RunsOutOver {L : Type 0} (rules : LinkRules L) (old : Resolver (WireHandle L)) (e : Event) : Type 0 where
  no_beginning : TakesMemory e → RunsOutOver rules old e
  no_end : (reply : EventReply) (replied new : Resolver (WireHandle L)) (error : AllocError) → Happens rules old e reply replied
      → EndsOver rules replied (Err error) new → RunsOutOver rules old e
  link_is_out : (reply : EventReply) (replied new : Resolver (WireHandle L)) → Happens rules old e reply replied
      → EndsOver rules replied (Ok tt) new → rules.is_out new.client.handle.link ≡ true → RunsOutOver rules old e

-- ---- runs

-- Event by event, with the report of each and the resolver after it, from the old resolver to the new one.
abbrev pub RunsOver : {L : Type 0} → LinkRules L → Resolver (WireHandle L) → List Event → List EventReport
    → List (Resolver (WireHandle L)) → Resolver (WireHandle L) → Type 0
RunsOver rules old [] [] [] new = new ≡ old
RunsOver rules old (e ∷ events) (report ∷ reports) (state ∷ states) new =
    StepOver rules old e report state × RunsOver rules state events reports states new
RunsOver rules old events reports states new = ⊥

-- the resolver with another list of the ids that were drawn
abbrev pub with_sent : {L : Type 0} → Resolver (WireHandle L) → Vec (ℕ × Query) → Resolver (WireHandle L)
with_sent resolver sent = with_handle resolver (record resolver.client.handle { sent = sent })

-- Events lead from a resolver, for whose ids capacity is reserved first, to another, with these reports.
pub record HasRunOver {L : Type 0} (rules : LinkRules L) (first : Resolver (WireHandle L)) (events : List Event)
    (reports : List EventReport) (last : Resolver (WireHandle L)) : Type 0 where
  pub ids : Vec (ℕ × Query)
  pub reserved : ids.items ≡ first.client.handle.sent.items
  pub states : List (Resolver (WireHandle L))
  pub runs : RunsOver rules (with_sent first ids) events reports states last

-- a report of events from a resolver on, with the ids that were drawn and the datagrams that were dropped by then
pub record IsReportOver {L : Type 0} (rules : LinkRules L) (first : Resolver (WireHandle L)) (events : List Event)
    (report : Report) : Type 0 where
  pub last : Resolver (WireHandle L)
  pub has_run : HasRunOver rules first events report.events.items last
  pub sent : report.sent.items ≡ last.client.handle.sent.items
  pub dropped : report.dropped ≡ last.client.handle.dropped

-- After so many events a run stops: before any event, or at the next one.
abbrev pub StopsAtOver : {L : Type 0} → LinkRules L → ℕ → List Event → Resolver (WireHandle L) → Type 0
StopsAtOver rules count events resolver =
    (count ≡ 0) ⊎ ((e : Event) × (slice_get events count ≡ Some e) × RunsOutOver rules resolver e)

-- a report of the events before the one at which a run stopped
pub record IsReportBeforeOver {L : Type 0} (rules : LinkRules L) (first : Resolver (WireHandle L)) (events : List Event)
    (report : Report) : Type 0 where
  pub count : ℕ
  pub reported : IsReportOver rules first (take count events) report
  pub stopped : StopsAtOver rules count events reported.last
