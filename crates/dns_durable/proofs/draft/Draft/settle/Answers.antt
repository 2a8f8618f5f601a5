use Rattle.std.proofs.Common.{◌≡◌, ◌∙◌, sym}
use Rattle.dns_updates.specs.Keys.{Place, owner_code, type_code}
use Rattle.dns_durable.proofs.DraftSettleLaws.{on_ok}
use Rattle.dns_durable.proofs.DraftStepLaws.{settled_some, settled_there, settled_none, settled_absent}
use Rattle.dns_durable.proofs.draft.Draft.settle.Goals as goal

pub returns-in-Some-clause-goes_on : goal.returns-in-Some-clause-goes_on
returns-in-Some-clause-goes_on c =
    let k : Place = c.set_key-key.result in
    let at : k ≡ (owner_code c.args.owner.now.labels, type_code c.args.record_type) = λ i. (c.set_key-key.ensures.owner i, c.set_key-key.ensures.of_type i) in
    on_ok c.write_set.result _ _ c.write_set.ensures (λ writes.
    settled_some c.args.zone.now c.in-Some.ensures.0 c.args.owner.now.labels c.args.record_type c.args.self.now k c.insert.new.self c.in-Some.ensures.1.0 at (sym c.has_settled.ensures ∙ c.if-has_settled.false)
    c.in_ok-insert.ensures.updates.0 c.in-Some.set.now c.write_set.new.self (sym c.in-Some.ensures.1.1) writes)

pub returns-in-Some-clause-settled : goal.returns-in-Some-clause-settled
returns-in-Some-clause-settled c =
    let k : Place = c.set_key-key.result in
    let at : k ≡ (owner_code c.args.owner.now.labels, type_code c.args.record_type) = λ i. (c.set_key-key.ensures.owner i, c.set_key-key.ensures.of_type i) in
    on_ok c.write_set.result _ _ c.write_set.ensures (λ writes.
    settled_there c.args.zone.now c.in-Some.ensures.0 c.args.owner.now.labels c.args.record_type c.args.self.now k c.insert.new.self c.in-Some.ensures.1.0 at (sym c.has_settled.ensures ∙ c.if-has_settled.false)
    c.in_ok-insert.ensures.updates.0 c.in-Some.set.now c.write_set.new.self writes)

pub returns-in-None-clause-goes_on : goal.returns-in-None-clause-goes_on
returns-in-None-clause-goes_on c =
    let k : Place = c.set_key-key.result in
    let at : k ≡ (owner_code c.args.owner.now.labels, type_code c.args.record_type) = λ i. (c.set_key-key.ensures.owner i, c.set_key-key.ensures.of_type i) in
    settled_none c.args.zone.now c.in-None.ensures.0 c.args.owner.now.labels c.args.record_type c.args.self.now k c.insert.new.self c.in-None.ensures.1.0 at (sym c.has_settled.ensures ∙ c.if-has_settled.false)
    c.in_ok-insert.ensures.updates.0 (sym c.in-None.ensures.1.1)

pub returns-in-None-clause-settled : goal.returns-in-None-clause-settled
returns-in-None-clause-settled c =
    let k : Place = c.set_key-key.result in
    let at : k ≡ (owner_code c.args.owner.now.labels, type_code c.args.record_type) = λ i. (c.set_key-key.ensures.owner i, c.set_key-key.ensures.of_type i) in
    settled_absent c.args.zone.now c.in-None.ensures.0 c.args.owner.now.labels c.args.record_type c.args.self.now k c.insert.new.self c.in-None.ensures.1.0 at (sym c.has_settled.ensures ∙ c.if-has_settled.false)
    c.in_ok-insert.ensures.updates.0
