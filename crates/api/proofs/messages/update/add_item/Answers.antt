use Rattle.std.proofs.Common.{◌∙◌, ap, sym, Some}
use Rattle.dns_wire.specs.codes.RecordType.{type_of}
use Rattle.api.specs.messages.Items.{item_of}
use Rattle.api.specs.declared.messages.item.Item.{Item}
use Rattle.api.proofs.UpdateLaws.{filled_unadded}
use Rattle.api.proofs.messages.update.add_item.Goals as goal

pub returns-in-Some-Filled-clause-refused : goal.returns-in-Some-Filled-clause-refused
returns-in-Some-Filled-clause-refused c =
    filled_unadded c.args.update.now.zone (item_of c.args.item) c.in-Some-Filled.item c.args.name.now c.from-record_type.result (type_of c.args.record_type) c.args.text.now c.add_filled.result
    (sym c.item_of.ensures ∙ (c.in-Some-Filled.is ∙ ap (λ (i : Item). Some i) c.in-Some-Filled.field-0-is)) c.from-record_type.ensures c.add_filled.ensures.refused
