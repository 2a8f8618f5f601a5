use Rattle.std.proofs.Common.{List, map, sym, ap, ◌∙◌, subst}
use Rattle.std.specs.List.{filter}
use Rattle.dns_wire.specs.declared.codes.record_type.RecordType.{RecordType}
use Rattle.dns_names.specs.Compare.{same_labels}
use Rattle.dns_records.specs.RecordSet.{RecordSetValue}
use Rattle.dns_updates.specs.Sets.{AreTypesAt, rows_of_sets}
use Rattle.dns_updates.proofs.ChangeLaws.{types_of_sets}
use Rattle.dns_updates.proofs.zone_rows.set_list.SetListZoneRows.types.Goals as goal

pub returns : goal.returns
returns c =
    let P : List RecordType → Type 0 = λ ts. AreTypesAt (rows_of_sets c.args.self.now.sets.items) c.args.owner.now.labels ts in
    subst P (sym (c.in_ok-found.ensures ∙ ap (λ (sets : List RecordSetValue). map (λ (s : RecordSetValue). s.record_type) (filter (λ (s : RecordSetValue). same_labels c.args.owner.now.labels s.name.labels) sets)) c.as_slice.ensures.value))
    (types_of_sets c.args.self.now.sets.items c.args.owner.now.labels)
