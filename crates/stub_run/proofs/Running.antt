-- A run over the scripted link goes on, event by event, in the states without bytes, and is reported.
use Rattle.std.proofs.Common.{◌≡◌, ◌≤◌, ◌<◌, ◌^◌, false, ℕ, zero, suc, List, [], ◌∷◌, Option, Some, None, Result, Ok, Err, IfOk, IfSome, length, take, get_or, refl, sym, subst, ◌∙◌, arith, inl, inr}
use Rattle.std.specs.Global.{Vec}
use Rattle.dns_messages.specs.declared.query.Query.{Query}
use Rattle.stub_run.specs.Alike.{AreAlike}
use Rattle.stub_run.specs.Run.{InOrder, IsReportBefore, IsReportOf, RunState, Runs, StopsAt, asks_of}
use Rattle.stub_run.specs.RunOver.{HasRunOver, IsReportBeforeOver, IsReportOver, RunsOver, StopsAtOver, with_sent}
use Rattle.stub_run.specs.World.{BeginsWith}
use Rattle.stub_run.specs.declared.event.Event.{Event}
use Rattle.stub_run.specs.declared.report.EventReport.{EventReport}
use Rattle.stub_run.specs.declared.report.Report.{Report}
use Rattle.stub_run.specs.declared.report.Stopped.{Stopped}
use Rattle.stub_run.specs.declared.world.World.{World}
use Rattle.stub_run.proofs.Happening.{AskLaw, IsInState, UpdateLaw, WireResolver, out-alike, scripted_rules, step-alike}

-- ---- moments

-- the moment of each event is at most 2 ^ 62
pub moment-in-order : (last : ℕ) (events : List Event) (i : ℕ) (d : Event) → InOrder last events → i < length events
    → (get_or events i d).at ≤ 2 ^ 62
moment-in-order last [] i d h within = absurd (omega arith)
moment-in-order last (e ∷ events) zero d h within = h.1
moment-in-order last (e ∷ events) (suc i) d h within = moment-in-order e.at events i d h.2 (omega arith)

-- ---- runs

-- Events with these reports led a resolver to a state that is not out of memory.
pub record HasRun (first : RunState) (events : List Event) (reports : List EventReport) (resolver : WireResolver) : Type 0 where
  pub states : List RunState
  pub state : RunState
  pub alike : AreAlike IsInState resolver state
  pub memory : (asks_of state).link.out_of_memory ≡ false
  pub runs : Runs first events reports states state

-- A run over the scripted link leads to a state, from each state that its resolver is in at first.
has-run-from : (asks : AskLaw) (updates : UpdateLaw) (old : WireResolver) (events : List Event) (reports : List EventReport)
    (states : List WireResolver) (last : WireResolver) → RunsOver scripted_rules old events reports states last → (first : RunState)
    → AreAlike IsInState old first → (asks_of first).link.out_of_memory ≡ false → HasRun first events reports last
has-run-from asks updates old [] [] [] last h first alike memory = record {
  states = [];
  state = first;
  alike = subst (λ (r : WireResolver). AreAlike IsInState r first) (sym h) alike;
  memory = memory;
  runs = refl;
}
has-run-from asks updates old [] [] (s ∷ states) last h first alike memory = absurd h
has-run-from asks updates old [] (r ∷ reports) states last h first alike memory = absurd h
has-run-from asks updates old (e ∷ events) [] states last h first alike memory = absurd h
has-run-from asks updates old (e ∷ events) (r ∷ reports) [] last h first alike memory = absurd h
has-run-from asks updates old (e ∷ events) (r ∷ reports) (s ∷ states) last h first alike memory =
    let led = step-alike asks updates old s e r h.0 first alike in
    let rest = has-run-from asks updates s events reports states last h.1 led.0 led.1 led.2.memory in
    record {
      states = led.0 ∷ rest.states;
      state = rest.state;
      alike = rest.alike;
      memory = rest.memory;
      runs = (led.2, rest.runs);
    }

-- a resolver is in the same states whatever capacity is reserved for its ids
alike-reserved : (resolver : WireResolver) (ids : Vec (ℕ × Query)) (state : RunState) → ids.items ≡ resolver.client.handle.sent.items
    → AreAlike IsInState resolver state → AreAlike IsInState (with_sent resolver ids) state
alike-reserved resolver ids state same alike = record {
  settings = alike.settings;
  client = record {
    handle = record {
      link = alike.client.handle.link;
      shows = λ quiet.
          let shown = alike.client.handle.shows quiet in
          record { ids = shown.ids; sent = same ∙ shown.sent; dropped = shown.dropped; faults = shown.faults; questions = shown.questions };
    };
    cache = alike.client.cache;
    aliases = alike.client.aliases;
  };
}

abbrev has-run : (asks : AskLaw) (updates : UpdateLaw) (world : World) (first : RunState) (events : List Event) (reports : List EventReport)
    (last : WireResolver) → BeginsWith world first → HasRunOver scripted_rules world.resolver events reports last
    → HasRun first events reports last
has-run asks updates world first events reports last begins h =
    has-run-from asks updates (with_sent world.resolver h.ids) events reports h.states last h.runs first
    (alike-reserved world.resolver h.ids first h.reserved begins.alike) begins.memory

-- ---- reports

-- the report of a run over the scripted link is one of the states
abbrev is-report-of : (first : RunState) (events : List Event) (resolver : WireResolver) (report : Report)
    (run : HasRun first events report.events.items resolver) → report.sent.items ≡ resolver.client.handle.sent.items
    → report.dropped ≡ resolver.client.handle.dropped → IsReportOf first events report
is-report-of first events resolver report run sent dropped =
    let handle = run.alike.client.handle in
    let shown = handle.shows (handle.link.memory ∙ run.memory) in
    record { states = run.states; last = run.state; runs = run.runs; sent = sent ∙ shown.sent; dropped = dropped ∙ shown.dropped }

pub reported : (asks : AskLaw) (updates : UpdateLaw) (world : World) (events : List Event) (result : Result Report Stopped)
    → IfOk result (λ report. IsReportOver scripted_rules world.resolver events report)
    → IfOk result (λ report. (first : RunState) → BeginsWith world first → IsReportOf first events report)
reported asks updates world events (Ok report) h = λ first begins.
    is-report-of first events h.last report
    (has-run asks updates world first events report.events.items h.last begins h.has_run) h.sent h.dropped
reported asks updates world events (Err stopped) h = tt

before : (asks : AskLaw) (updates : UpdateLaw) (world : World) (events : List Event) (report : Report)
    → IsReportBeforeOver scripted_rules world.resolver events report → (first : RunState) → BeginsWith world first
    → IsReportBefore first events report
before asks updates world events report h first begins =
    let last = h.reported.last in
    let run = has-run asks updates world first (take h.count events) report.events.items last begins h.reported.has_run in
    record {
      count = h.count;
      reported = is-report-of first (take h.count events) last report run h.reported.sent h.reported.dropped;
      stopped = by run h.stopped;
    }
  where
    by : (run : HasRun first (take h.count events) report.events.items h.reported.last) → StopsAtOver scripted_rules h.count events h.reported.last
        → StopsAt h.count events run.state
    by run (inl none) = inl none
    by run (inr (e, found, out)) = inr (e, found, out-alike asks updates h.reported.last e out run.state run.alike)

pub stopped : (asks : AskLaw) (updates : UpdateLaw) (world : World) (events : List Event) (o : Option Report)
    → IfSome o (λ report. IsReportBeforeOver scripted_rules world.resolver events report)
    → IfSome o (λ report. (first : RunState) → BeginsWith world first → IsReportBefore first events report)
stopped asks updates world events None h = tt
stopped asks updates world events (Some report) h = before asks updates world events report h
