use Rattle.dns_durable.specs.Draft.{is_settled}
use Rattle.dns_durable.proofs.DraftSettleLaws.{not_deleting, record_is}
use Rattle.dns_durable.proofs.draft.Draft.settle_record.Goals as goal

pub returns-in_ok-settle_owner-clause-settled : goal.returns-in_ok-settle_owner-clause-settled
returns-in_ok-settle_owner-clause-settled c =
    record_is (is_settled c.settle_owner.new.self) c.args.zone.now.rows c.args.update.now c.record_type.result c.record_type.ensures
    (c.in_ok-settle_owner.ensures.goes_on.grows _ c.in_ok-settle.ensures.settled) (λ deletes. c.in_ok-settle_owner.ensures.settled)

pub returns-else-deletes_owner-clause-settled : goal.returns-else-deletes_owner-clause-settled
returns-else-deletes_owner-clause-settled c =
    record_is (is_settled c.settle.new.self) c.args.zone.now.rows c.args.update.now c.record_type.result c.record_type.ensures c.in_ok-settle.ensures.settled
    (λ deletes. not_deleting c.deletes_owner.result _ c.deletes_owner.ensures c.if-deletes_owner.false deletes)
