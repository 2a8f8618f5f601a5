use Rattle.std.proofs.Common.{rules, inl, inr, refl}
use Rattle.stub_run.specs.Run.{InOrder}
use Rattle.stub_play.proofs.OrderLaws.{Happens, IsOut, leads_on, out_is_first, out_is_not_in_order, none_is_in_order}
use Rattle.stub_play.proofs.plays.first_out_of_order.Goals as goal
use Rattle.stub_play.proofs.plays.first_out_of_order.Goals.{then-now-last-via-then-now-last, then-now-last-via-else-now-last+then-now}

happens : (c : goal.Joined-then-now-last) → Happens c.args.events.now c.loop-i.i c.index-events-i.result c.index-events-i.result.at
happens c = record { is_event = c.loop-i-test.true; is = c.index-events-i.is; moment = refl }

is_out : (c : goal.Joined-then-now-last) → IsOut c.loop-i.last c.index-events-i.result.at
is_out c = elim c.then-now-last.branch [
  | then-now-last-via-then-now-last w ↦ inl w.if-now-last.true
  | then-now-last-via-else-now-last+then-now w ↦ inr w.if-now.true
]

pub returns-then-now-last-clause-none : goal.returns-then-now-last-clause-none
returns-then-now-last-clause-none c =
    let not : ¬ InOrder 0 c.args.events.now = out_is_not_in_order c.args.events.now c.loop-i.i c.loop-i.last c.index-events-i.result.at c.index-events-i.result (happens c) c.loop-i.invariant (is_out c) in
    (λ e. absurd (cc e), λ o. absurd (not o))

pub returns-then-now-last-clause-first : goal.returns-then-now-last-clause-first
returns-then-now-last-clause-first c =
    out_is_first c.args.events.now c.loop-i.i c.loop-i.last c.index-events-i.result.at c.index-events-i.result (happens c) c.loop-i.invariant (is_out c)

pub loop-i-preserved : goal.loop-i-preserved
loop-i-preserved c =
    leads_on c.args.events.now c.loop-i.i c.loop-i.last c.index-events-i.result.at c.index-events-i.result
    (record { is_event = c.loop-i-test.true; is = c.index-events-i.is; moment = refl })
    c.loop-i.invariant c.if-now-last.false c.if-now.false

pub returns-clause-none : goal.returns-clause-none
returns-clause-none c = (λ e. none_is_in_order c.args.events.now c.loop-i.i c.loop-i.last c.loop-i-test.false c.loop-i.invariant, λ o. search rules)
