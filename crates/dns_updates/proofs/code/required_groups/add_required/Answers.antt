use Rattle.std.proofs.Common.{◌∙◌, sym}
use Rattle.dns_updates.specs.Keys.{owner_code, type_code}
use Rattle.dns_updates.specs.internal.Required.{all_data_at, record_place}
use Rattle.dns_updates.proofs.RequiredLaws.{not_added, required_added}
use Rattle.dns_updates.proofs.code.required_groups.add_required.Goals as goal

pub returns-then-not-is_in_class : goal.returns-then-not-is_in_class
returns-then-not-is_in_class c = λ r. not_added r c.args.prerequisite.now (all_data_at c.args.groups.now (record_place r)) (sym c.if-not-is_in_class.ensures)

pub returns : goal.returns
returns c = λ r.
    c.in_ok-add.ensures (record_place r)
    ∙ required_added r c.args.prerequisite.now _ (all_data_at c.args.groups.now (record_place r)) (λ i. (owner_code c.args.prerequisite.now.name.labels, type_code (c.record_type-record_type.ensures i))) (sym c.if-not-is_in_class.ensures)
