use Rattle.std.proofs.Common.{◌≡◌, ◌∙◌, false, ap, sym}
use Rattle.dns_zone.specs.Rows.{some_row_below}
use Rattle.dns_authority.specs.Front.{step_front}
use Rattle.dns_authority.proofs.FrontLaws.{over_front}
use Rattle.dns_authority.proofs.SourceLaws.{absent_name}
use Rattle.dns_authority.proofs.step.step_at_name.Goals as goal

pub returns-then-not-node : goal.returns-then-not-node
returns-then-not-node c =
    let absent : some_row_below c.args.zone.now.rows c.args.owner.now.labels ≡ false =
    sym c.node-node.ensures.exists ∙ c.if-not-node.true in
    over_front (step_front c.args.wanted.most) c.step_beside.result _ _ c.step_beside.ensures
    (ap (step_front c.args.wanted.most) (absent_name c.args.zones.now c.args.zone.now c.args.wanted.asked c.args.owner.now absent))
