use Rattle.dns_zone.proofs.AppliedChangeLaws.{update_difference}
use Rattle.dns_zone.proofs.zone.Zone.difference_by.Goals as goal

pub returns : goal.returns
returns c =
    update_difference c.self.inside.origin c.self.inside.sets c.args.self.now c.args.changed.now c.args.update.now c.in_ok-change.change c.self.view_is
    c.well_formed-2.ensures c.requires.sound c.requires.accepted c.requires.changes c.requires.ordered c.in_ok-change.ensures.deleted c.in_ok-change.ensures.added
