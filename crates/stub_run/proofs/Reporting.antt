-- Every run has one history, and so has its report, up to the event that the report has reached.
use Rattle.std.proofs.Common.{◌≡◌, ◌<◌, ◌^◌, false, ℕ, zero, suc, List, [], ◌∷◌, Result, Ok, Err, length, take, refl, sym, ap, subst, ◌∙◌}
use Rattle.std.specs.Prelude.{IfOk, IfSome}
use Rattle.dns_zone.specs.Rows.{IsZone, ZoneContent}
use Rattle.stub_link.specs.AskState.{first_asks}
use Rattle.stub_link.specs.History.{Occasion, first_past, history_of}
use Rattle.stub_laws.specs.history.Faithful.{HasNoReuse}
use Rattle.stub_run.specs.AtReplies.{AreFreshAtReplies, AreWholeAtReplies, HaveChainBoundsAtReplies, HaveSourcesAtReplies}
use Rattle.stub_run.specs.Headline.{AreFresh, HasNoLeastTtl, HaveChainBounds, IsMadeOf, WorldContent, report_in, reported}
use Rattle.stub_run.specs.History.{AreOccasions, MakePasts}
use Rattle.stub_run.specs.OneHistory.{HasOneHistory}
use Rattle.stub_run.specs.Questions.{AreAskable}
use Rattle.stub_run.specs.Run.{InOrder, IsReportBefore, IsReportOf, RunState, Runs, asks_of, memory_report}
use Rattle.stub_run.specs.Steady.{AreSteady}
use Rattle.stub_run.specs.Walked.{AreWalked}
use Rattle.stub_run.specs.Whole.{AreWhole}
use Rattle.stub_run.specs.World.{BeginsWith, IsFirst}
use Rattle.stub_run.specs.declared.event.Event.{Event}
use Rattle.stub_run.specs.declared.report.EventReport.{EventReport}
use Rattle.stub_run.specs.declared.report.Report.{Report}
use Rattle.stub_run.specs.declared.report.Stopped.{Stopped}
use Rattle.stub_run.specs.declared.report.Stopped.TheVariants as stops
use Rattle.stub_run.specs.declared.world.World.{World}

-- ---- the events that a report has reached

runs-length : (first last : RunState) (events : List Event) (reports : List EventReport) (states : List RunState)
    → Runs first events reports states last → length reports ≡ length events
runs-length first last [] [] [] runs = refl
runs-length first last (e ∷ events) (report ∷ reports) (state ∷ states) runs =
    ap suc (runs-length state last events reports states runs.1)
runs-length first last [] [] (state ∷ states) runs = absurd runs
runs-length first last [] (report ∷ reports) states runs = absurd runs
runs-length first last (e ∷ events) [] states runs = absurd runs
runs-length first last (e ∷ events) (report ∷ reports) [] runs = absurd runs

pub take-front : (count : ℕ) (events : List Event) → take (length (take count events)) events ≡ take count events
take-front zero [] = refl
take-front zero (e ∷ events) = refl
take-front (suc count) [] = refl
take-front (suc count) (e ∷ events) = ap (λ (es : List Event). e ∷ es) (take-front count events)

pub take-whole : (events : List Event) → take (length events) events ≡ events
take-whole [] = refl
take-whole (e ∷ events) = ap (λ (es : List Event). e ∷ es) (take-whole events)

pub front-in-order : (last count : ℕ) (events : List Event) → InOrder last events → InOrder last (take count events)
front-in-order last zero [] h = tt
front-in-order last zero (e ∷ events) h = tt
front-in-order last (suc count) [] h = tt
front-in-order last (suc count) (e ∷ events) h = (h.0, h.1, front-in-order e.at count events h.2)

pub front-askable : (count : ℕ) (events : List Event) → AreAskable events → AreAskable (take count events)
front-askable zero [] h = tt
front-askable zero (e ∷ events) h = tt
front-askable (suc count) [] h = tt
front-askable (suc count) (e ∷ events) h = (h.0, front-askable count events h.1)

-- ---- one history

-- what the laws say of every run with occasions that make its versions
abbrev pub FreshLaw : Type 0
FreshLaw =
    (content : WorldContent) (first last : RunState) (events : List Event) (reports : List EventReport) (states : List RunState)
    (occasions : List Occasion) → IsZone content.zone
    → IsFirst content.zone content.limit content.ids content.config content.options content.hosts first
    → InOrder 0 events → Runs first events reports states last → MakePasts (first_past content.zone) states occasions
    → HasNoReuse (asks_of last).sent → HasNoLeastTtl content → AreFresh content events reports occasions

abbrev pub ChainLaw : Type 0
ChainLaw =
    (content : WorldContent) (first last : RunState) (events : List Event) (reports : List EventReport) (states : List RunState)
    (occasions : List Occasion) → IsZone content.zone
    → IsFirst content.zone content.limit content.ids content.config content.options content.hosts first
    → InOrder 0 events → Runs first events reports states last → MakePasts (first_past content.zone) states occasions
    → HasNoReuse (asks_of last).sent → HasNoLeastTtl content → content.options.preserve_intermediates ≡ false
    → HaveChainBounds content events reports occasions

abbrev pub WholeLaw : Type 0
WholeLaw =
    (content : WorldContent) (first last : RunState) (events : List Event) (reports : List EventReport) (states : List RunState)
    (occasions : List Occasion) → IsZone content.zone
    → IsFirst content.zone content.limit content.ids content.config content.options content.hosts first
    → InOrder 0 events → Runs first events reports states last → MakePasts (first_past content.zone) states occasions
    → HasNoReuse (asks_of last).sent → AreWhole content events reports occasions

abbrev pub SteadyLaw : Type 0
SteadyLaw =
    (content : WorldContent) (first last : RunState) (events : List Event) (reports : List EventReport) (states : List RunState)
    (occasions : List Occasion) → IsZone content.zone
    → IsFirst content.zone content.limit content.ids content.config content.options content.hosts first
    → InOrder 0 events → Runs first events reports states last → MakePasts (first_past content.zone) states occasions
    → HasNoReuse (asks_of last).sent → AreSteady content events reports occasions

abbrev pub WalkedLaw : Type 0
WalkedLaw =
    (content : WorldContent) (first last : RunState) (events : List Event) (reports : List EventReport) (states : List RunState)
    (occasions : List Occasion) → IsZone content.zone
    → IsFirst content.zone content.limit content.ids content.config content.options content.hosts first
    → InOrder 0 events → Runs first events reports states last → MakePasts (first_past content.zone) states occasions
    → HasNoReuse (asks_of last).sent → content.options.preserve_intermediates ≡ false
    → content.options.edns_payload_len < 2 ^ 16 → AreAskable events → AreWalked content events reports occasions

-- by the versions up to each reply, and by the questions of its lookup
abbrev pub FreshAtRepliesLaw : Type 0
FreshAtRepliesLaw =
    (content : WorldContent) (first last : RunState) (events : List Event) (reports : List EventReport) (states : List RunState)
    → IsZone content.zone → IsFirst content.zone content.limit content.ids content.config content.options content.hosts first
    → InOrder 0 events → (runs : Runs first events reports states last) → HasNoReuse (asks_of last).sent → HasNoLeastTtl content
    → AreFreshAtReplies content first events reports states last runs

abbrev pub ChainAtRepliesLaw : Type 0
ChainAtRepliesLaw =
    (content : WorldContent) (first last : RunState) (events : List Event) (reports : List EventReport) (states : List RunState)
    → IsZone content.zone → IsFirst content.zone content.limit content.ids content.config content.options content.hosts first
    → InOrder 0 events → (runs : Runs first events reports states last) → HasNoReuse (asks_of last).sent → HasNoLeastTtl content
    → content.options.preserve_intermediates ≡ false → HaveChainBoundsAtReplies content first events reports states last runs

abbrev pub WholeAtRepliesLaw : Type 0
WholeAtRepliesLaw =
    (content : WorldContent) (first last : RunState) (events : List Event) (reports : List EventReport) (states : List RunState)
    → IsZone content.zone → IsFirst content.zone content.limit content.ids content.config content.options content.hosts first
    → InOrder 0 events → (runs : Runs first events reports states last) → HasNoReuse (asks_of last).sent
    → AreWholeAtReplies content first events reports states last runs

abbrev pub SourcesLaw : Type 0
SourcesLaw =
    (content : WorldContent) (first last : RunState) (events : List Event) (reports : List EventReport) (states : List RunState)
    → IsZone content.zone → IsFirst content.zone content.limit content.ids content.config content.options content.hosts first
    → InOrder 0 events → (runs : Runs first events reports states last) → HasNoReuse (asks_of last).sent
    → HaveSourcesAtReplies content first events reports states last runs

-- what the events decide
abbrev pub DecidedLaw : Type 0
DecidedLaw =
    (zone : ZoneContent) (limit : ℕ) (ids : List ℕ) (first last : RunState) (events : List Event) (reports : List EventReport)
    (states : List RunState) → asks_of first ≡ first_asks zone limit ids → Runs first events reports states last
    → (occasions : List Occasion) × AreOccasions events reports occasions × MakePasts (first_past zone) states occasions
    × ((asks_of last).link.history ≡ history_of zone occasions)

-- each run has one history, over which all claims hold
abbrev pub HistoryLaw : Type 0
HistoryLaw =
    (content : WorldContent) (first : RunState) (events : List Event) (report : Report) → IsZone content.zone
    → IsFirst content.zone content.limit content.ids content.config content.options content.hosts first
    → content.options.edns_payload_len < 2 ^ 16 → InOrder 0 events → AreAskable events → IsReportOf first events report
    → HasOneHistory content first events report

pub one-history : FreshLaw → ChainLaw → WholeLaw → FreshAtRepliesLaw → ChainAtRepliesLaw → WholeAtRepliesLaw → SourcesLaw → SteadyLaw → WalkedLaw
    → DecidedLaw → HistoryLaw
one-history fresh chain whole fresh_at chain_at whole_at sources steady walked decided content first events report zone begins payload order askable r =
    let reports : List EventReport = report.events.items in
    let d = decided content.zone content.limit content.ids first r.last events reports r.states begins.asks r.runs in
    record {
      reported = r;
      occasions = d.0;
      are_events = d.1;
      pasts = d.2;
      fresh = λ once none.
          fresh content first r.last events reports r.states d.0 zone begins order r.runs d.2 (subst HasNoReuse r.sent once) none;
      chain_bound = λ once none off.
          chain content first r.last events reports r.states d.0 zone begins order r.runs d.2 (subst HasNoReuse r.sent once) none off;
      whole = λ once.
          whole content first r.last events reports r.states d.0 zone begins order r.runs d.2 (subst HasNoReuse r.sent once);
      fresh_at_replies = λ once none.
          fresh_at content first r.last events reports r.states zone begins order r.runs (subst HasNoReuse r.sent once) none;
      chain_bound_at_replies = λ once none off.
          chain_at content first r.last events reports r.states zone begins order r.runs (subst HasNoReuse r.sent once) none off;
      whole_at_replies = λ once.
          whole_at content first r.last events reports r.states zone begins order r.runs (subst HasNoReuse r.sent once);
      sources = λ once.
          sources content first r.last events reports r.states zone begins order r.runs (subst HasNoReuse r.sent once);
      steady = λ once.
          steady content first r.last events reports r.states d.0 zone begins order r.runs d.2 (subst HasNoReuse r.sent once);
      walked = λ once off.
          walked content first r.last events reports r.states d.0 zone begins order r.runs d.2 (subst HasNoReuse r.sent once) off payload
          askable;
    }

-- ---- the history of a report

module _ (law : HistoryLaw) (content : WorldContent) (world : World) (made : IsMadeOf world content) where
  whole : (events : List Event) (report : Report) → InOrder 0 events → AreAskable events → IsReportOf made.state events report
      → HasOneHistory content made.state (reported events report) report
  whole events report order askable r =
      let same : reported events report ≡ events =
      ap (λ (n : ℕ). take n events) (runs-length made.state r.last events report.events.items r.states r.runs) ∙ take-whole events in
      subst (λ (es : List Event). HasOneHistory content made.state es report) (sym same)
      (law content made.state events report made.zone made.first made.payload order askable r)

  front : (events : List Event) (report : Report) → InOrder 0 events → AreAskable events → IsReportBefore made.state events report
      → HasOneHistory content made.state (reported events report) report
  front events report order askable b =
      let es : List Event = take b.count events in
      let r = b.reported in
      let same : reported events report ≡ es =
      ap (λ (n : ℕ). take n events) (runs-length made.state r.last es report.events.items r.states r.runs) ∙ take-front b.count events in
      subst (λ (all : List Event). HasOneHistory content made.state all report) (sym same)
      (law content made.state es report made.zone made.first made.payload (front-in-order 0 b.count events order)
      (front-askable b.count events askable) r)

-- what the law says of a result
abbrev pub HistoryOfResult : World → List Event → Result Report Stopped → Type 0
HistoryOfResult world events result =
    IfSome (report_in result) (λ report. (content : WorldContent) → (made : IsMadeOf world content)
    → HasOneHistory content made.state (reported events report) report)

pub report-history : HistoryLaw → (world : World) (events : List Event) (result : Result Report Stopped) → AreAskable events
    → IfOk result (λ report. (state : RunState) → BeginsWith world state → IsReportOf state events report)
    → IfSome (memory_report result) (λ report. (state : RunState) → BeginsWith world state → IsReportBefore state events report)
    → IfSome (report_in result) (λ report. InOrder 0 events) → HistoryOfResult world events result
report-history law world events (Ok report) askable run stopped order =
    λ content made. whole law content world made events report order askable (run made.state made.begins)
report-history law world events (Err (stops.Memory report)) askable run stopped order =
    λ content made. front law content world made events report order askable (stopped made.state made.begins)
report-history law world events (Err stops.Moments) askable run stopped order = tt
