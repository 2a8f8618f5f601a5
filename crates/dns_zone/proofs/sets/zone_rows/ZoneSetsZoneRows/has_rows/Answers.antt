use Rattle.std.proofs.Common.{◌∙◌}
use Rattle.dns_updates.proofs.SetLaws.{any_of_name}
use Rattle.dns_zone.proofs.sets.zone_rows.ZoneSetsZoneRows.has_rows.Goals as goal

pub returns : goal.returns
returns c = c.has_set_of.ensures ∙ any_of_name c.args.self.now c.args.owner.now
