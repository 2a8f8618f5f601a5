use Rattle.std.proofs.Common.{◌≡◌, ◌≤◌, ◌+◌, ◌++◌, false, ℕ, List, [], ◌∷◌, is_err, length, take, vec_len, vec_capacity, refl, sym, ap, subst, ◌∙◌, arith, ◌^◌, inl}
use Rattle.std.proofs.lemmas.List.{take_more, take_all}
use Rattle.std.specs.Global.{Vec}
use Rattle.stub_run.specs.RunOver.{HasRunOver, rules_of}
use Rattle.stub_run.specs.declared.event.Event.{Event}
use Rattle.stub_run.specs.declared.report.EventReport.{EventReport}
use Rattle.stub_run.proofs.Running.{moment-in-order}
use Rattle.stub_run.proofs.RunningOver.{has-begun, has-reserved, has-run-more, if-ok, is-report, is-report-before, no-event, ok-or-err, stops-at, tells-before}
use Rattle.stub_run.proofs.runs.run_events.Goals as goal
use Rattle.stub_run.proofs.runs.run_events.Goals.{then-is_err-via-then-is_err, then-is_err-via-else-is_err+then-is_err-2}

pub returns-then-is_err-clause-stopped : goal.returns-then-is_err-clause-stopped
returns-then-is_err-clause-stopped g c =
    let rules = rules_of g.L.EventLink.begins g.L.EventLink.ends g.L.EventLink.is_out g.L.Link.sends g.L.Link.receives g.L.Link.streams g.L.Link.failure_count in
    let first = c.args.resolver in
    let run : HasRunOver rules first [] [] c.then-is_err.resolver = elim c.then-is_err.branch [
      | then-is_err-via-then-is_err w ↦ subst (λ r. HasRunOver rules first [] [] r) (sym w.resolver-is) (has-begun rules first)
      | then-is_err-via-else-is_err+then-is_err-2 w ↦ subst (λ r. HasRunOver rules first [] [] r) (sym w.resolver-is)
          (has-reserved rules first w.reserve_ids.new.resolver w.reserve_ids.ensures.rest w.reserve_ids.ensures.ids)
    ] in
    let none : c.report_of.result.events.items ≡ [] =
    ap (λ (v : Vec EventReport). v.items) c.report_of.ensures.events ∙ c.reserve.ensures.items ∙ c.new-reports.ensures.items in
    is-report-before rules first c.args.events.now 0 [] c.then-is_err.resolver c.report_of.result run (inl refl) (record {
      events = none;
      sent = ap (λ v. v.items) c.report_of.ensures.sent;
      dropped = c.report_of.ensures.dropped;
    })

pub returns-then-is_err-clause-order : goal.returns-then-is_err-clause-order
returns-then-is_err-clause-order g c = c.is_in_order.ensures.0 c.if-not-is_in_order.false

pub returns-then-is_err-clause-decided : goal.returns-then-is_err-clause-decided
returns-then-is_err-clause-decided g c = λ none.
    let len : length c.args.events.now ≡ 0 = ap length none in
    let fits : vec_len c.new-reports.result ≤ vec_capacity c.new-reports.result = c.new-reports.result.ok.1 in
    elim c.then-is_err.branch [
      | then-is_err-via-then-is_err w ↦ absurd (ok-or-err c.reserve.result (sym c.is_err.ensures.value ∙ w.if-is_err.true)
          (c.reserve.ensures.succeeds (omega (arith, len, fits))))
      | then-is_err-via-else-is_err+then-is_err-2 w ↦ absurd (ok-or-err w.reserve_ids.result (sym w.is_err-else-is_err.ensures.value ∙ w.if-is_err-2.true)
          (w.reserve_ids.ensures.decided len))
    ]

pub loop-event-init : goal.loop-event-init
loop-event-init g c =
    let rules = rules_of g.L.EventLink.begins g.L.EventLink.ends g.L.EventLink.is_out g.L.Link.sends g.L.Link.receives g.L.Link.streams g.L.Link.failure_count in
    let items : c.reserve.new.self.items ≡ [] = c.reserve.ensures.items ∙ c.new-reports.ensures.items in
    let reserved : is_err c.reserve.result ≡ false = sym c.is_err.ensures.value ∙ c.if-is_err.false in
    record {
      runs =
          subst (λ (reports : List EventReport). HasRunOver rules c.args.resolver [] reports c.reserve_ids.new.resolver) (sym items)
          (has-reserved rules c.args.resolver c.reserve_ids.new.resolver c.reserve_ids.ensures.rest c.reserve_ids.ensures.ids);
      count = c.reserve.ensures.len ∙ c.new-reports.ensures.len;
      room =
          let room = if-ok c.reserve.result (vec_len c.reserve.new.self + length c.args.events.now ≤ vec_capacity c.reserve.new.self) reserved c.reserve.ensures.ok in
          omega (arith, room);
    }

pub loop-event-preserved : goal.loop-event-preserved
loop-event-preserved g c =
    let rules = rules_of g.L.EventLink.begins g.L.EventLink.ends g.L.EventLink.is_out g.L.Link.sends g.L.Link.receives g.L.Link.streams g.L.Link.failure_count in
    let i = c.loop-event.event-index in
    let events = c.args.events.now in
    let reports = c.loop-event.reports.items in
    let e = c.event-item.result in
    let new = c.happen.new.resolver in
    let more : take (i + 1) events ≡ take i events ++ e ∷ [] =
    take_more events i e c.loop-event-test.true ∙ ap (λ (x : Event). take i events ++ x ∷ []) (sym c.event-item.is) in
    record {
      runs =
          let after : HasRunOver rules c.args.resolver (take i events ++ e ∷ []) (reports ++ c.in-Some.report ∷ []) new =
          has-run-more rules c.args.resolver (take i events) reports c.loop-event.resolver e c.in-Some.report new c.in-Some.ensures.step
          c.loop-event.invariant.runs in
          subst (λ (rs : List EventReport). HasRunOver rules c.args.resolver (take (i + 1) events) rs new) (sym c.push_report.ensures.items)
          (subst (λ (es : List Event). HasRunOver rules c.args.resolver es (reports ++ c.in-Some.report ∷ []) new) (sym more) after);
      count = c.push_report.ensures.len ∙ ap (λ (n : ℕ). n + 1) c.loop-event.invariant.count;
      room = omega (arith, c.loop-event.invariant.room, c.push_report.ensures.capacity);
    }

pub happen-requires : goal.happen-requires
happen-requires g c =
    let i = c.loop-event.event-index in
    let order = c.is_in_order.ensures.0 c.if-not-is_in_order.false in
    subst (λ (e : Event). e.at ≤ 2 ^ 62) (sym c.event-item.is)
    (moment-in-order 0 c.args.events.now i c.event-item.result order c.loop-event-test.true)

pub returns : goal.returns
returns g c =
    let rules = rules_of g.L.EventLink.begins g.L.EventLink.ends g.L.EventLink.is_out g.L.Link.sends g.L.Link.receives g.L.Link.streams g.L.Link.failure_count in
    let events = c.args.events.now in
    let order = c.is_in_order.ensures.0 c.if-not-is_in_order.false in
    let all : take c.loop-event.event-index events ≡ events = take_all c.loop-event.event-index events c.loop-event-test.false in
    record {
      moments = (λ is in_order. absurd (cc), λ out. absurd (out order));
      run =
          let run : HasRunOver rules c.args.resolver events c.loop-event.reports.items c.loop-event.resolver =
          subst (λ (es : List Event). HasRunOver rules c.args.resolver es c.loop-event.reports.items c.loop-event.resolver) all
          c.loop-event.invariant.runs in
          is-report rules c.args.resolver events c.loop-event.reports.items c.loop-event.resolver c.report_of-2.result run (record {
            events = ap (λ (v : Vec EventReport). v.items) c.report_of-2.ensures.events;
            sent = ap (λ v. v.items) c.report_of-2.ensures.sent;
            dropped = c.report_of-2.ensures.dropped;
          });
      stopped = tt;
      order = order;
      decided = λ none. refl;
    }

pub returns-in-None : goal.returns-in-None
returns-in-None g c =
    let rules = rules_of g.L.EventLink.begins g.L.EventLink.ends g.L.EventLink.is_out g.L.Link.sends g.L.Link.receives g.L.Link.streams g.L.Link.failure_count in
    let events = c.args.events.now in
    let i = c.loop-event.event-index in
    let reports = c.loop-event.reports.items in
    let old = c.loop-event.resolver in
    let order = c.is_in_order.ensures.0 c.if-not-is_in_order.false in
    record {
      moments = (λ is in_order. absurd (cc), λ out. absurd (out order));
      run = tt;
      stopped =
          is-report-before rules c.args.resolver events i reports old c.report_at.result c.loop-event.invariant.runs
          (stops-at rules events i c.event-item.result old c.loop-event-test.true c.event-item.is (c.in-None.ensures.stop refl))
          (tells-before reports old c.happen.new.resolver c.progress_of-progress.result c.report_at.result
          c.progress_of-progress.ensures c.in-None.ensures.front
          (ap (λ (v : Vec EventReport). v.items) c.report_at.ensures.events) c.report_at.ensures.sent c.report_at.ensures.dropped);
      order = order;
      decided = λ none. absurd (no-event events i none c.loop-event-test.true);
    }
