use Rattle.std.proofs.Common.{◌∙◌, ap, sym, is_some}
use Rattle.dns_zone.specs.Rows.{key}
use Rattle.dns_zone.proofs.RowLaws.{get-sets, is_some_rows}
use Rattle.dns_zone.specs.Sets.{set_at}
use Rattle.dns_zone.proofs.sets.zone_rows.ZoneSetsZoneRows.has_set.Goals as goal

pub returns : goal.returns
returns c =
    c.contains.ensures ∙ sym (is_some_rows (set_at c.args.self.now (key c.args.owner.now.labels c.args.record_type)))
    ∙ sym (ap is_some (get-sets c.args.self.now (key c.args.owner.now.labels c.args.record_type)))
