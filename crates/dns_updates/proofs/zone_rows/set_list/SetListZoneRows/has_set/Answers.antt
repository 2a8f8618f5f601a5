use Rattle.std.proofs.Common.{ap, ◌∙◌}
use Rattle.std.specs.List.{list_any}
use Rattle.dns_records.specs.Rows.{key}
use Rattle.dns_updates.proofs.SetLaws.{tied, any_at_key}
use Rattle.dns_updates.proofs.zone_rows.set_list.SetListZoneRows.has_set.Goals as goal

pub returns : goal.returns
returns c =
    c.any_at.ensures ∙ ap (list_any (tied (key c.args.owner.now.labels c.args.record_type))) c.as_slice.ensures.value
    ∙ any_at_key c.args.self.now.sets.items c.args.owner.now c.args.record_type
