use Rattle.std.proofs.Common.{◌==◌, ◌∙◌, ◌&&◌, ap}
use Rattle.dns_wire.specs.codes.RecordType.{type_number}
use Rattle.dns_names.specs.Name.{DomainName}
use Rattle.dns_names.specs.Compare.{same_labels}
use Rattle.dns_updates.proofs.SetLaws.{keys_tie}
use Rattle.dns_updates.proofs.zone_rows.set_list.is_at.Goals as goal

pub returns-then-eq_ignore_root : goal.returns-then-eq_ignore_root
returns-then-eq_ignore_root c =
    (λ i. c.if-eq_ignore_root.ensures i && c.eq.ensures i)
    ∙ (λ i. same_labels c.args.owner.now.labels (c.name.ensures i).labels && (type_number c.args.record_type == type_number (c.record_type.ensures i)))
    ∙ keys_tie c.args.owner.now.labels c.args.set.now.name.labels c.args.record_type c.args.set.now.record_type

pub returns-else-eq_ignore_root : goal.returns-else-eq_ignore_root
returns-else-eq_ignore_root c =
    c.if-eq_ignore_root.false ∙ ap (λ b. b && (type_number c.args.record_type == type_number c.args.set.now.record_type)) c.if-eq_ignore_root.ensures
    ∙ ap (λ (owner : DomainName). same_labels c.args.owner.now.labels owner.labels && (type_number c.args.record_type == type_number c.args.set.now.record_type)) c.name.ensures
    ∙ keys_tie c.args.owner.now.labels c.args.set.now.name.labels c.args.record_type c.args.set.now.record_type
