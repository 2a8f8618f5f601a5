use Rattle.std.proofs.Common.{◌≡◌, ◌⊎◌, ◌∙◌, true, false, inr, refl, subst}
use Rattle.dns_durable.specs.Changes.{reply_bytes}
use Rattle.dns_durable.specs.Reply.{AnswersOne, zones_left}
use Rattle.dns_durable.specs.declared.incoming.Arrived.{Arrived}
use Rattle.dns_durable.proofs.BatchLaws.{answered_left, first_judged, front_go_on, front_stop, mapped_more, on_error, others_judged, replies_begin, replies_end, replies_go_on}
use Rattle.dns_durable.proofs.ChangesLaws.{changes_more, changes_none}
use Rattle.dns_durable.proofs.answering.answer_all.Goals as goal

pub returns-in_err-reply-clause-failed : goal.returns-in_err-reply-clause-failed
returns-in_err-reply-clause-failed c =
    on_error c.from_residual.result _ (λ is. front_stop c.args.policy.now c.loop-rest.rest.now c.next-item.result c.args.is_stored c.args.server.now c.loop-rest.server c.answer.new.server c.args.admitted.now is
    c.in-len1-up.len_at_least c.loop-rest.invariant.1.0 c.loop-rest.invariant.1.1.1.0
    (subst (λ (x : Arrived). (c.answer.new.server ≡ c.loop-rest.server) ⊎ (c.answer.new.server ≡ zones_left c.args.policy.now.answering c.args.is_stored c.loop-rest.server x)) c.next-item.is c.in_err-reply.ensures.failed))

pub returns-in_err-push-clause-failed : goal.returns-in_err-push-clause-failed
returns-in_err-push-clause-failed c =
    on_error c.from_residual-in_err-push.result _ (λ is. front_stop c.args.policy.now c.loop-rest.rest.now c.next-item.result c.args.is_stored c.args.server.now c.loop-rest.server c.answer.new.server
    c.args.admitted.now is c.in-len1-up.len_at_least c.loop-rest.invariant.1.0 c.loop-rest.invariant.1.1.1.0
    (inr (answered_left c.args.policy.now c.args.is_stored c.args.is_stored c.loop-rest.server c.answer.new.server _ _ refl
    (subst (λ (x : Arrived). AnswersOne c.args.policy.now c.args.is_stored c.loop-rest.server c.answer.new.server x (reply_bytes c.in_ok-reply.reply)) c.next-item.is c.in_ok-reply.ensures.answered))))

pub loop-rest-init : goal.loop-rest-init
loop-rest-init c = (
  replies_begin c.args.policy.now c.args.is_stored c.args.server.now c.args.admitted.now reply_bytes c.new-replies.result.items c.new-replies.ensures.items,
  (λ is last front. front, (λ is. refl, (c.requires, changes_none c.args.server.now c.new-replies.result.items c.new-replies.ensures.items))),
)

pub loop-rest-preserved : goal.loop-rest-preserved
loop-rest-preserved c =
    let first = subst (λ (x : Arrived). AnswersOne c.args.policy.now c.args.is_stored c.loop-rest.server c.answer.new.server x (reply_bytes c.in_ok-reply.reply)) c.next-item.is c.in_ok-reply.ensures.answered in (
      λ more end rest. replies_go_on c.args.policy.now c.args.is_stored c.loop-rest.rest.now c.next-item.result c.args.server.now c.loop-rest.server c.answer.new.server c.args.admitted.now _ _
          (reply_bytes c.in_ok-reply.reply) c.in-len1-up.len_at_least c.loop-rest.invariant.0 first
          (mapped_more reply_bytes c.loop-rest.replies.items c.in_ok-reply.reply c.push.new.self.items c.in_ok-push.ensures.items) more end rest,
      (
        λ is last front. front_go_on c.args.policy.now c.loop-rest.rest.now c.next-item.result c.args.server.now c.loop-rest.server c.answer.new.server last c.args.admitted.now c.in-len1-up.len_at_least
            (c.loop-rest.invariant.1.0 is) (first_judged c.args.policy.now c.loop-rest.rest.now c.next-item.result c.in-len1-up.len_at_least c.loop-rest.invariant.1.1.1.0)
            (answered_left c.args.policy.now c.args.is_stored true c.loop-rest.server c.answer.new.server _ _ is first) front,
        (
          λ is. answered_left c.args.policy.now c.args.is_stored false c.loop-rest.server c.answer.new.server _ _ is first ∙ c.loop-rest.invariant.1.1.0 is,
          (
            others_judged c.args.policy.now c.loop-rest.rest.now c.in-len1-up.len_at_least c.loop-rest.invariant.1.1.1.0,
            changes_more c.args.server.now c.loop-rest.server c.answer.new.server c.loop-rest.replies.items c.in_ok-reply.reply c.push.new.self.items c.in_ok-push.ensures.items
                c.loop-rest.invariant.1.1.1.1 c.in_ok-reply.ensures.change,
          ),
        ),
      ),
    )

pub returns-clause-answered : goal.returns-clause-answered
returns-clause-answered c =
    replies_end c.args.policy.now c.args.is_stored c.loop-rest.rest.now c.args.server.now c.loop-rest.server c.args.admitted.now _ c.in_default.len_below c.loop-rest.invariant.0
