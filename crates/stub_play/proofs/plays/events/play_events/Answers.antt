use Rattle.std.proofs.Common.{◌≡◌, ◌≤◌, ◌+◌, ◌++◌, ◌^◌, [], ◌∷◌, List, take, refl, sym, ap, subst, ◌∙◌, inl}
use Rattle.std.proofs.lemmas.List.{take_more, take_all}
use Rattle.std.proofs.lemmas.Result.{err_from_is_err_and}
use Rattle.stub_run.specs.Run.{InOrder}
use Rattle.stub_run.specs.RunOver.{StopsAtOver, rules_of}
use Rattle.stub_run.specs.declared.event.Event.{Event}
use Rattle.stub_run.proofs.Running.{moment-in-order}
use Rattle.stub_run.proofs.RunningOver.{stops-at}
use Rattle.stub_play.proofs.EventLaws.{SoFar, so-far-more, so-far-none, told-all, told-first}
use Rattle.stub_play.proofs.plays.events.play_events.Goals as goal

pub loop-event-init : goal.loop-event-init
loop-event-init g c =
    let rules = rules_of g.L.EventLink.begins g.L.EventLink.ends g.L.EventLink.is_out g.L.Link.sends g.L.Link.receives g.L.Link.streams g.L.Link.failure_count in
    so-far-none rules c.args.input.now c.args.resolver c.reserve_for.new.resolver (g.W.Write.contents c.args.writer.now)
    c.reserve_for.ensures.rest c.reserve_for.ensures.ids

pub happen-requires : goal.happen-requires
happen-requires g c =
    let order = c.is_in_order.ensures.0 c.if-not-is_in_order.false in
    subst (λ (e : Event). e.at ≤ 2 ^ 62) (sym c.event-item.is)
    (moment-in-order 0 c.as_slice-events.result.now c.loop-event.event-index c.event-item.result order c.loop-event-test.true)

pub loop-event-preserved : goal.loop-event-preserved
loop-event-preserved g c =
    let rules = rules_of g.L.EventLink.begins g.L.EventLink.ends g.L.EventLink.is_out g.L.Link.sends g.L.Link.receives g.L.Link.streams g.L.Link.failure_count in
    let i = c.loop-event.event-index in
    let events = c.as_slice-events.result.now in
    let e = c.event-item.result in
    let more : take (i + 1) events ≡ take i events ++ e ∷ [] =
    take_more events i e c.loop-event-test.true ∙ ap (λ (x : Event). take i events ++ x ∷ []) (sym c.event-item.is) in
    subst (λ (es : List Event). SoFar rules c.args.input.now c.args.resolver es c.happen.new.resolver (g.W.Write.contents c.args.writer.now)
    (g.W.Write.contents c.print_told.new.writer)) (sym more)
    (so-far-more rules c.args.input.now c.args.resolver (take i events) c.loop-event.resolver e c.in-Some.told c.happen.new.resolver
    (g.W.Write.contents c.args.writer.now) (g.W.Write.contents c.loop-event.writer) (g.W.Write.contents c.print_told.new.writer)
    c.loop-event.invariant c.in-Some.ensures.step c.in_ok-print_told-in-Some.ensures)

pub returns-then-not-is_in_order : goal.returns-then-not-is_in_order
returns-then-not-is_in_order g c = record { order = tt; told = tt; early = (c.line_out_of_order.ensures, refl) }

pub returns-then-is_err : goal.returns-then-is_err
returns-then-is_err g c =
    let rules = rules_of g.L.EventLink.begins g.L.EventLink.ends g.L.EventLink.is_out g.L.Link.sends g.L.Link.receives g.L.Link.streams g.L.Link.failure_count in
    let contents = g.W.Write.contents c.args.writer.now in
    let order : InOrder 0 c.args.script.now.events.items =
    subst (InOrder 0) c.as_slice-events.ensures.value (c.is_in_order.ensures.0 c.if-not-is_in_order.false) in
    let none = so-far-none rules c.args.input.now c.args.resolver c.reserve_for.new.resolver contents c.reserve_for.ensures.rest c.reserve_for.ensures.ids in
    record {
      order = tt;
      told = tt;
      early = (
        order,
        told-first rules c.args.input.now c.args.resolver c.args.script.now.events 0 c.reserve_for.new.resolver contents contents none (inl refl),
      );
    }

pub returns-in-None : goal.returns-in-None
returns-in-None g c =
    let rules = rules_of g.L.EventLink.begins g.L.EventLink.ends g.L.EventLink.is_out g.L.Link.sends g.L.Link.receives g.L.Link.streams g.L.Link.failure_count in
    let items = c.args.script.now.events.items in
    let events = c.as_slice-events.result.now in
    let i = c.loop-event.event-index in
    let old = c.loop-event.resolver in
    let before = g.W.Write.contents c.args.writer.now in
    let after = g.W.Write.contents c.loop-event.writer in
    let order : InOrder 0 items = subst (InOrder 0) c.as_slice-events.ensures.value (c.is_in_order.ensures.0 c.if-not-is_in_order.false) in
    let so : SoFar rules c.args.input.now c.args.resolver (take i items) old before after =
    subst (λ (es : List Event). SoFar rules c.args.input.now c.args.resolver (take i es) old before after) c.as_slice-events.ensures.value
    c.loop-event.invariant in
    let stop : StopsAtOver rules i items old =
    subst (λ (es : List Event). StopsAtOver rules i es old) c.as_slice-events.ensures.value
    (stops-at rules events i c.event-item.result old c.loop-event-test.true c.event-item.is (c.in-None.ensures.stop refl)) in
    record {
      order = tt;
      told = tt;
      early = (order, told-first rules c.args.input.now c.args.resolver c.args.script.now.events i old before after so stop);
    }

pub returns-in_err-print_told-in-Some : goal.returns-in_err-print_told-in-Some
returns-in_err-print_told-in-Some g c =
    let left = err_from_is_err_and c.from_residual.result c.from_residual.ensures.1 in
    let order : InOrder 0 c.args.script.now.events.items =
    subst (InOrder 0) c.as_slice-events.ensures.value (c.is_in_order.ensures.0 c.if-not-is_in_order.false) in
    rw (left.1, left.2) (record { order = tt; told = tt; early = order })

pub returns : goal.returns
returns g c =
    let rules = rules_of g.L.EventLink.begins g.L.EventLink.ends g.L.EventLink.is_out g.L.Link.sends g.L.Link.receives g.L.Link.streams g.L.Link.failure_count in
    let items = c.args.script.now.events.items in
    let events = c.as_slice-events.result.now in
    let last = c.loop-event.resolver in
    let before = g.W.Write.contents c.args.writer.now in
    let after = g.W.Write.contents c.loop-event.writer in
    let all : take c.loop-event.event-index events ≡ items =
    take_all c.loop-event.event-index events c.loop-event-test.false ∙ c.as_slice-events.ensures.value in
    record {
      order = subst (InOrder 0) c.as_slice-events.ensures.value (c.is_in_order.ensures.0 c.if-not-is_in_order.false);
      told =
          told-all rules c.args.input.now c.args.resolver c.args.script.now.events last before after
          (subst (λ (es : List Event). SoFar rules c.args.input.now c.args.resolver es last before after) all c.loop-event.invariant);
      early = tt;
    }
