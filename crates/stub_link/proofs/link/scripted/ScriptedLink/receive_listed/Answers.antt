use Rattle.std.proofs.Common.{◌≡◌, ℕ, ◌++◌, ◌∷◌, [], List, Option, Some, None, Result, Err, option_map, refl, rules, sym, ap, subst, ◌∙◌}
use Rattle.std.specs.Global.{Vec}
use Rattle.std.proofs.lemmas.List.{append-nil}
use Rattle.stub_link.specs.declared.link.LinkError.{LinkError}
use Rattle.stub_link.specs.declared.link.script.LinkEvent.{LinkEvent}
use Rattle.stub_link.specs.LinkState.{LinkState}
use Rattle.stub_link.specs.ScriptedLink.{HasSent, ReceivesListed, UnlessMemory}
use Rattle.stub_link.proofs.Receiving.{IsDelivery, of_question, of_update, receive-begun, receive-delivered, receive-ended, receive-fail, receive-quiet, receive-reply, receive-skipped}
use Rattle.stub_link.proofs.link.scripted.ScriptedLink.receive_listed.Goals as goal

pub loop-event-init : goal.loop-event-init
loop-event-init c = receive-begun c.args.self.now

pub returns-in-Quiet-clause-receives : goal.returns-in-Quiet-clause-receives
returns-in-Quiet-clause-receives c = receive-quiet c.args.self.now c.loop-event.self c.pop.new.self c.loop-event.invariant (rw c.in-Quiet.is at c.in-Some.ensures.items)

pub returns-in-Fail-clause-receives : goal.returns-in-Fail-clause-receives
returns-in-Fail-clause-receives c =
    subst (λ (e : LinkError). UnlessMemory {X = Option (Vec ℕ)} (Err e) ((state : LinkState) → HasSent c.args.self.now state → ReceivesListed c.args.self.now (Err e) c.fail.new.self state)) (sym c.fail.ensures.error)
    (receive-fail c.args.self.now c.loop-event.self c.fail.new.self c.pop.new.self c.loop-event.invariant (rw c.in-Fail.is at c.in-Some.ensures.items) c.fail.ensures.rest)

pub returns-in-Some-2-clause-receives : goal.returns-in-Some-2-clause-receives
returns-in-Some-2-clause-receives c =
    receive-reply c.args.self.now c.loop-event.self c.pop.new.self c.in-Reply.n c.in-Some-2.bytes.items c.loop-event.invariant (rw c.in-Reply.is at c.in-Some.ensures.items) (rw c.in-Some-2.is at c.in_ok-bytes-in-Reply.ensures)

pub loop-event-preserved-in_default-2 : goal.loop-event-preserved-in_default-2
loop-event-preserved-in_default-2 c =
    receive-skipped c.args.self.now c.loop-event.self c.pop.new.self c.in-Reply.n c.loop-event.invariant (rw c.in-Reply.is at c.in-Some.ensures.items) (rw c.in_default-2.is at c.in_ok-bytes-in-Reply.ensures)

pub returns-clause-receives : goal.returns-clause-receives
returns-clause-receives c =
    let none : c.pop.new.self.items ≡ [] = search rules in
    receive-ended c.args.self.now c.loop-event.self _ c.loop-event.invariant (c.in_default.ensures.items ∙ append-nil c.pop.new.self.items ∙ none) refl refl refl none

pub loop-event-preserved-in-Continue-branch-3 : goal.loop-event-preserved-in-Continue-branch-3
loop-event-preserved-in-Continue-branch-3 c =
    receive-delivered c.args.self.now c.loop-event.self c.deliver_event.new.self c.pop.new.self c.in-Some.event c.loop-event.invariant c.in-Some.ensures.items
    (subst IsDelivery (sym c.in-Question.is) (of_question c.in-Question.field-0)) c.in_ok-deliver_event-in-Question.ensures.delivers c.deliver_event.ensures.rest

pub loop-event-preserved : goal.loop-event-preserved
loop-event-preserved c =
    receive-delivered c.args.self.now c.loop-event.self c.deliver_event-in-Update.new.self c.pop.new.self c.in-Some.event c.loop-event.invariant c.in-Some.ensures.items
    (subst IsDelivery (sym c.in-Update.is) (of_update c.in-Update.field-0)) c.in_ok-deliver_event-in-Update.ensures.delivers c.deliver_event-in-Update.ensures.rest
