use Rattle.std.proofs.Common.{◌∙◌, List, ap}
use Rattle.dns_records.specs.declared.row.Row.{Row}
use Rattle.dns_authority.specs.Front.{step_front}
use Rattle.dns_authority.specs.Step.{step_by}
use Rattle.dns_authority.proofs.FrontLaws.{of_front, steps_alike}
use Rattle.dns_authority.proofs.step.step_from.Goals as goal

pub returns : goal.returns
returns c =
    of_front (step_front c.args.wanted.most) c.step_by.result _ _ c.step_by.ensures
    (ap (λ (aliases : List Row). step_front c.args.wanted.most (step_by c.args.zones.now c.args.zone.now c.args.owner.now c.in_ok-records.records aliases)) c.requires.1.1
    ∙ steps_alike c.args.wanted.most c.args.zones.now c.args.zone.now c.args.owner.now c.in_ok-records.records _ _ c.requires.0 c.in_ok-records.ensures)
