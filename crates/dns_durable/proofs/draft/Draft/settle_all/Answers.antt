use Rattle.dns_durable.specs.Draft.{is_settled}
use Rattle.dns_durable.proofs.DraftSettleLaws.{all_past, arrived_settled, both_on}
use Rattle.dns_durable.proofs.draft.Draft.settle_all.Goals as goal

pub loop-arrived-preserved : goal.loop-arrived-preserved
loop-arrived-preserved c = (
  both_on c.args.zone.now c.args.self.now c.loop-arrived.self c.settle_one.new.self c.loop-arrived.invariant.0 c.in_ok-settle_one.ensures.goes_on,
  arrived_settled c.args.zone.now c.loop-arrived.self c.settle_one.new.self c.args.admitted.now c.loop-arrived.arrived-index c.arrived-item.result c.loop-arrived-test.true c.arrived-item.is
      c.in_ok-settle_one.ensures.goes_on c.in_ok-settle_one.ensures.settled c.loop-arrived.invariant.1,
)

pub returns-clause-settled : goal.returns-clause-settled
returns-clause-settled c =
    c.loop-arrived.invariant.1 (is_settled c.loop-arrived.self) (λ p e. e) (all_past _ c.args.admitted.now c.loop-arrived.arrived-index c.loop-arrived-test.false)
