use Rattle.std.proofs.Common.{◌≡◌, ◌∙◌, ◌++◌, ◌∷◌, List, [], ap, arith, length, sym}
use Rattle.std.proofs.lemmas.List.{nil_from_length}
use Rattle.dns_sockets.specs.schedule.Schedule.{ScheduleContent, Waiting, all_due, all_left, left_at}
use Rattle.dns_sockets.specs.declared.datagrams.WaitingReply.{WaitingReply}
use Rattle.dns_sockets.proofs.DueLaws.{due_none, due_some, sends_all, sends_more}
use Rattle.dns_sockets.proofs.TraceLaws.{led_both}
use Rattle.dns_sockets.proofs.datagrams.send_due.Goals as goal

pub returns-in_default-clause-sent : goal.returns-in_default-clause-sent
returns-in_default-clause-sent g c =
    let before = c.loop-reply.invariant.sent in
    record {
      events = before.0;
      led = before.1.0;
      holds = sends_all (all_due c.args.now c.loop-reply.waiting.items) (all_due c.args.now c.args.waiting.now.items) before.0
          (due_none c.args.now c.loop-reply.waiting.items (sym c.pop_due.ensures.item ∙ c.in_default.is)).0 before.1.1;
    }

pub loop-reply-preserved : goal.loop-reply-preserved
loop-reply-preserved g c =
    let old = c.loop-reply.waiting.items in
    let before = c.loop-reply.invariant in
    let some = due_some c.args.now old c.in-Some.reply (sym c.pop_due.ensures.item ∙ c.in-Some.is) in
    let left : c.pop_due.new.self.items ≡ left_at c.args.now old = ap (λ (s : ScheduleContent WaitingReply). s.items) c.pop_due.ensures.left in
    record {
      sent = (
        before.sent.0 ++ c.send.ensures.events,
        (
          led_both g.W.World.performs c.args.world.now c.loop-reply.world c.send.new.world before.sent.0 c.send.ensures.events before.sent.1.0 c.send.ensures.led,
          sends_more c.in-Some.reply (all_due c.args.now old) (all_due c.args.now c.pop_due.new.self.items) (all_due c.args.now c.args.waiting.now.items) before.sent.0 c.send.ensures.events
              (some.0 ∙ ap (λ (l : List (Waiting WaitingReply)). c.in-Some.reply ∷ all_due c.args.now l) (sym left)) before.sent.1.1 c.send.ensures.holds,
        ),
      );
      left = ap (all_left c.args.now) left ∙ sym some.1.0 ∙ before.left;
      same = c.pop_due.ensures.left ∙ ap (λ (s : ScheduleContent WaitingReply). record s { items = left_at c.args.now old }) before.same
          ∙ ap (λ (l : List (Waiting WaitingReply)). record c.args.waiting.now { items = l }) (sym left);
      counted = omega (arith, before.counted, some.1.1, ap length left);
    }

pub returns-clause-sent : goal.returns-clause-sent
returns-clause-sent g c =
    let before = c.loop-reply.invariant in
    let none : c.loop-reply.waiting.items ≡ [] = nil_from_length c.loop-reply.waiting.items (omega (arith, before.counted, c.loop-reply-test.false, c.loop-reply.auto._reply-end, c.len-reply-end.ensures)) in
    record {
      events = before.sent.0;
      led = before.sent.1.0;
      holds = sends_all (all_due c.args.now c.loop-reply.waiting.items) (all_due c.args.now c.args.waiting.now.items) before.sent.0 (ap (all_due c.args.now) none) before.sent.1.1;
    }
