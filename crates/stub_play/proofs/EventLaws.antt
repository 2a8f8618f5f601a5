-- Events are told one after another: the report of those so far is never in memory.
use Rattle.std.proofs.Common.{◌≡◌, ◌≤◌, ◌<◌, ◌^◌, ◌+◌, ◌++◌, ◌∷◌, [], ℕ, List, Option, length, take, refl, sym, ap, subst, ◌∙◌, arith, append_assoc, append-nil, length-take}
use Rattle.std.specs.Global.{Vec}
use Rattle.std.specs.Io.KnownBytes.{Appends}
use Rattle.dns_zone_file.specs.declared.types.Types.{Types}
use Rattle.stub_core.specs.declared.resolver.Resolver.{Resolver}
use Rattle.stub_link.specs.declared.wire_handle.WireHandle.{WireHandle}
use Rattle.stub_run.specs.RunOver.{HasRunOver, IsReportBeforeOver, IsReportOver, LinkRules, StepOver, StopsAtOver, with_sent}
use Rattle.stub_run.specs.declared.event.Event.{Event}
use Rattle.stub_run.specs.declared.report.EventReport.{EventReport}
use Rattle.stub_run.specs.declared.report.Report.{Report}
use Rattle.stub_run.proofs.RunningOver.{has-reserved, has-run-more, is-report, is-report-before}
use Rattle.stub_play.specs.Plays.{Told}
use Rattle.stub_play.specs.report.Report.{report_text, told_text}
use Rattle.stub_play.specs.declared.plays.input.PlayInput.{PlayInput}
use Rattle.stub_play.specs.declared.report.report.PlayFormat.{PlayFormat}
use Rattle.stub_play.proofs.PlayLaws.{front_text, reports_len}
use Rattle.stub_play.proofs.ReportLaws.{appends_nothing, appends_then}

-- ---- reports

-- a vector with these items, which is nowhere in memory
abbrev pub made-vec : {X Y : Type 0} → Vec Y → (xs : List X) → length xs < 2 ^ 63 → Vec X
made-vec v xs small = record {
  ptr = v.ptr;
  len = length xs;
  cap = length xs;
  alloc = v.alloc;
  items = xs;
  ok = (refl, omega arith);
  small = small;
}

-- the report of events that led to a resolver
abbrev pub report-of : {L : Type 0} → (events : Vec Event) → (reports : List EventReport) → length reports ≤ length events.items
    → Resolver (WireHandle L) → Report
report-of events reports few resolver =
    let small : length reports < 2 ^ 63 = omega (arith, few, events.ok.0, events.ok.1, events.small) in record {
      events = made-vec events reports small;
      sent = resolver.client.handle.sent;
      dropped = resolver.client.handle.dropped;
    }

-- ---- texts

-- one more event is told
text-more : (types : Types) (format : PlayFormat) (events : List Event) (reports : List EventReport) (e : Event) (r : EventReport)
    → length reports ≡ length events
    → report_text types format (events ++ e ∷ []) (reports ++ r ∷ []) ≡ report_text types format events reports ++ told_text types format e r
text-more types format [] [] e r h = append-nil (told_text types format e r)
text-more types format [] (y ∷ reports) e r h = absurd (omega arith)
text-more types format (x ∷ events) [] e r h = absurd (omega arith)
text-more types format (x ∷ events) (y ∷ reports) e r h =
    let same : length reports ≡ length events = omega arith in
    ap (λ (l : List ℕ). told_text types format x y ++ l) (text-more types format events reports e r same)
    ∙ sym (append_assoc (told_text types format x y) (report_text types format events reports) (told_text types format e r))

-- ---- events so far

-- Events led from a resolver to another, with reports whose text is written.
pub record SoFar {L : Type 0} (rules : LinkRules L) (input : PlayInput) (first : Resolver (WireHandle L)) (events : List Event)
    (resolver : Resolver (WireHandle L)) (old new : Option (List ℕ)) : Type 0 where
  pub reports : List EventReport
  pub run : HasRunOver rules first events reports resolver
  pub written : Appends old new (report_text input.types input.format events reports)

module _ {L : Type 0} (rules : LinkRules L) where
  -- nothing is told yet
  pub so-far-none : (input : PlayInput) (first reserved : Resolver (WireHandle L)) (contents : Option (List ℕ))
      → reserved ≡ with_sent first reserved.client.handle.sent → reserved.client.handle.sent.items ≡ first.client.handle.sent.items
      → SoFar rules input first [] reserved contents contents
  so-far-none input first reserved contents rest ids =
      record { reports = []; run = has-reserved rules first reserved rest ids; written = appends_nothing contents }

  -- one more event is told
  pub so-far-more : (input : PlayInput) (first : Resolver (WireHandle L)) (events : List Event) (old : Resolver (WireHandle L)) (e : Event)
      (report : EventReport) (new : Resolver (WireHandle L)) (a b c : Option (List ℕ)) → SoFar rules input first events old a b
      → StepOver rules old e report new → Appends b c (told_text input.types input.format e report)
      → SoFar rules input first (events ++ e ∷ []) new a c
  so-far-more input first events old e report new a b c so step more = record {
    reports = so.reports ++ report ∷ [];
    run = has-run-more rules first events so.reports old e report new step so.run;
    written =
        subst (Appends a c)
        (sym (text-more input.types input.format events so.reports e report (reports_len rules first events so.reports old so.run)))
        (appends_then a b c (report_text input.types input.format events so.reports) (told_text input.types input.format e report) so.written more);
  }

  -- all events are told
  pub told-all : (input : PlayInput) (first : Resolver (WireHandle L)) (events : Vec Event) (resolver : Resolver (WireHandle L))
      (old new : Option (List ℕ)) → SoFar rules input first events.items resolver old new
      → Told (IsReportOver rules first events.items) input events.items old new
  told-all input first events resolver old new so =
      let same = reports_len rules first events.items so.reports resolver so.run in
      let few : length so.reports ≤ length events.items = omega (arith, same) in (
        report-of events so.reports few resolver,
        is-report rules first events.items so.reports resolver (report-of events so.reports few resolver) so.run
            (record { events = refl; sent = refl; dropped = refl }),
        so.written,
      )

  -- the events before one at which memory ran out are told
  pub told-first : (input : PlayInput) (first : Resolver (WireHandle L)) (events : Vec Event) (count : ℕ) (resolver : Resolver (WireHandle L))
      (old new : Option (List ℕ)) → SoFar rules input first (take count events.items) resolver old new
      → StopsAtOver rules count events.items resolver
      → Told (IsReportBeforeOver rules first events.items) input events.items old new
  told-first input first events count resolver old new so stop =
      let same = reports_len rules first (take count events.items) so.reports resolver so.run in
      let short = length-take count events.items in
      let few : length so.reports ≤ length events.items = omega (arith, same, short) in
      let within : length so.reports ≤ count = omega (arith, same, short) in (
        report-of events so.reports few resolver,
        is-report-before rules first events.items count so.reports resolver (report-of events so.reports few resolver) so.run stop
            (record { events = refl; sent = refl; dropped = refl }),
        subst (Appends old new) (sym (front_text input.types input.format count events.items so.reports within)) so.written,
      )
