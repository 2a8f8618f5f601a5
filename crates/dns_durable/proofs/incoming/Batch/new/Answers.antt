use Rattle.std.proofs.Common.{subst}
use Rattle.dns_durable.specs.Incoming.{IsAdmitted}
use Rattle.dns_durable.specs.declared.incoming.Incoming.{Incoming}
use Rattle.dns_durable.proofs.BatchLaws.{admitted_end, admitted_go_on, entry_added}
use Rattle.dns_durable.proofs.incoming.Batch.new.Goals as goal

pub loop-rest-preserved : goal.loop-rest-preserved
loop-rest-preserved c = (
  λ more rest. admitted_go_on c.args.policy.now c.loop-rest.rest.now c.incoming-item.result c.loop-rest.admitted.items c.push.new.self.items c.in_ok-next.next c.args.requests.now c.in-len1-up.len_at_least
      c.loop-rest.invariant.0 (subst (λ (x : Incoming). IsAdmitted c.args.policy.now x c.in_ok-next.next) c.incoming-item.is c.in_ok-next.ensures) c.in_ok-push.ensures.items more rest,
  entry_added c.args.policy.now.answering c.loop-rest.admitted.items c.in_ok-next.next c.loop-rest.entry.items c.push_change.new.entry.items c.push.new.self.items c.loop-rest.invariant.1 c.in_ok-push.ensures.items
      c.in_ok-push_change.ensures,
)

pub returns-clause-admitted : goal.returns-clause-admitted
returns-clause-admitted c =
    admitted_end c.args.policy.now c.loop-rest.rest.now c.loop-rest.admitted.items c.args.requests.now c.in_default.len_below c.loop-rest.invariant.0
