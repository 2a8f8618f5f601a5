use Rattle.std.proofs.Common.{◌∙◌, ap}
use Rattle.dns_updates.specs.Keys.{type_code}
use Rattle.dns_authority.proofs.SetIndexLaws.{set_added}
use Rattle.dns_authority.proofs.set_index.SetIndex.add.Goals as goal

pub returns : goal.returns
returns c = λ name t.
    set_added c.args.self.now (record { keys = c.insert.new.self }) c.set_key-key.result c.args.resource_record.now
    c.in_ok-insert.ensures.updates.0 (λ i. (c.set_key-key.ensures.owner i, (c.set_key-key.ensures.of_type ∙ ap type_code c.record_type.ensures) i)) name t
