use Rattle.dns_updates.proofs.RequiredLaws.{group_more}
use Rattle.dns_updates.proofs.code.required_groups.group.Goals as goal

pub loop-prerequisite-preserved : goal.loop-prerequisite-preserved
loop-prerequisite-preserved c = λ r.
    group_more r c.args.prerequisites.now c.loop-prerequisite.prerequisite-index c.prerequisite-item.result _ _ _ c.loop-prerequisite-test.true c.prerequisite-item.is
    (c.in_ok-add_required.ensures r) (c.loop-prerequisite.invariant r)
