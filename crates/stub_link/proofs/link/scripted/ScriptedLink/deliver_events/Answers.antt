use Rattle.std.proofs.Common.{List, refl, sym, ap, ◌∙◌}
use Rattle.std.specs.List.{list_any}
use Rattle.stub_link.specs.LinkState.{is_delivery}
use Rattle.stub_link.specs.declared.link.script.LinkEvent.{LinkEvent}
use Rattle.stub_link.proofs.Scripts.{events-begun, events-ended, events-refused, events-taken, never-refused, none-delivers}
use Rattle.stub_link.proofs.link.scripted.ScriptedLink.deliver_events.Goals as goal

pub loop-event-init : goal.loop-event-init
loop-event-init c = events-begun c.args.self.now

pub loop-event-preserved : goal.loop-event-preserved
loop-event-preserved c =
    events-taken c.args.self.now c.loop-event.self c.deliver_event.new.self c.pop.new.self c.in-Some.event c.loop-event.invariant c.in-Some.ensures.items c.in_ok-deliver_event.ensures.delivers c.deliver_event.ensures.rest

pub returns-in_err-deliver_event-clause-rest : goal.returns-in_err-deliver_event-clause-rest
returns-in_err-deliver_event-clause-rest c = events-refused c.args.self.now c.loop-event.self c.deliver_event.new.self c.pop.new.self c.loop-event.invariant c.deliver_event.ensures.rest

pub returns-in_err-deliver_event-clause-decided : goal.returns-in_err-deliver_event-clause-decided
returns-in_err-deliver_event-clause-decided c = λ is.
    let none = none-delivers c.pop.new.self.items c.in-Some.event
    (ap (λ (es : List LinkEvent). list_any is_delivery es) (sym c.in-Some.ensures.items) ∙ c.loop-event.invariant.none is) in
    absurd (never-refused c.deliver_event.result c.in_err-deliver_event.was (c.deliver_event.ensures.decided none.1))
