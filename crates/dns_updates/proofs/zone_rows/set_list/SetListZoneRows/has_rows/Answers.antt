use Rattle.std.proofs.Common.{ap, ◌∙◌}
use Rattle.std.specs.List.{list_any}
use Rattle.dns_names.specs.Compare.{same_labels}
use Rattle.dns_records.specs.RecordSet.{RecordSetValue}
use Rattle.dns_updates.proofs.SetLaws.{any_of_name}
use Rattle.dns_updates.proofs.zone_rows.set_list.SetListZoneRows.has_rows.Goals as goal

pub returns : goal.returns
returns c =
    c.any_of.ensures ∙ ap (list_any (λ (s : RecordSetValue). same_labels c.args.owner.now.labels s.name.labels)) c.as_slice.ensures.value
    ∙ any_of_name c.args.self.now.sets.items c.args.owner.now
