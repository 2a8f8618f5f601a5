use Rattle.dns_durable.specs.Draft.{is_settled}
use Rattle.dns_durable.proofs.DraftSettleLaws.{all_past, both_on, record_settled}
use Rattle.dns_durable.proofs.draft.Draft.settle_update.Goals as goal

pub loop-update-preserved : goal.loop-update-preserved
loop-update-preserved c = (
  both_on c.args.zone.now c.args.self.now c.loop-update.self c.settle_record.new.self c.loop-update.invariant.0 c.in_ok-settle_record.ensures.goes_on,
  record_settled c.args.zone.now c.loop-update.self c.settle_record.new.self c.args.updates.now c.loop-update.update-index c.update-item.result c.loop-update-test.true c.update-item.is
      c.in_ok-settle_record.ensures.goes_on c.in_ok-settle_record.ensures.settled c.loop-update.invariant.1,
)

pub returns-clause-settled : goal.returns-clause-settled
returns-clause-settled c = c.loop-update.invariant.1 (is_settled c.loop-update.self) (λ p e. e) (all_past _ c.args.updates.now c.loop-update.update-index c.loop-update-test.false)
