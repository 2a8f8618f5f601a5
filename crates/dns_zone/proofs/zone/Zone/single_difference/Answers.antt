use Rattle.dns_zone.proofs.AppliedChangeLaws.{single_difference}
use Rattle.dns_zone.proofs.zone.Zone.single_difference.Goals as goal

pub returns : goal.returns
returns c =
    single_difference c.self.inside.origin c.self.inside.sets c.args.self.now c.args.update.now c.args.addition.now c.records_at-stored.result.now c.record_type.result c.in_ok-change.change
    c.self.view_is c.well_formed-2.ensures c.requires.sound c.requires.accepted c.requires.single c.records_at-stored.ensures.rows c.record_type.ensures
    c.in_ok-change.ensures.deleted c.in_ok-change.ensures.added
