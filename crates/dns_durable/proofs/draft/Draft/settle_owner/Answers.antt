use Rattle.std.proofs.Common.{◌≡◌, List, subst, rules, true}
use Rattle.std.specs.List.{AllByRecursion}
use Rattle.dns_wire.specs.declared.codes.record_type.RecordType.{RecordType}
use Rattle.dns_updates.specs.Keys.{owner_code, type_code}
use Rattle.dns_durable.specs.Draft.{is_settled}
use Rattle.dns_durable.proofs.DraftSettleLaws.{all_empty, both_on, one_settled, owners_settled}
use Rattle.dns_durable.proofs.draft.Draft.settle_owner.Goals as goal

pub loop-record_type-preserved : goal.loop-record_type-preserved
loop-record_type-preserved c = (
  both_on c.args.zone.now c.args.self.now c.loop-record_type.self c.settle.new.self c.loop-record_type.invariant.0 c.in_ok-settle.ensures.goes_on,
  one_settled c.args.zone.now c.args.owner.now c.args.self.now c.loop-record_type.self c.settle.new.self c.loop-record_type.types.items c.pop.new.self.items _ c.in-Some.record_type
      c.in-Some.ensures.items c.in_ok-settle.ensures.goes_on c.in_ok-settle.ensures.settled c.loop-record_type.invariant.1,
)

pub returns-clause-settled : goal.returns-clause-settled
returns-clause-settled c =
    owners_settled c.args.zone.now c.in_ok-types.ensures.0 c.args.owner.now (is_settled c.loop-record_type.self) c.in_ok-types.ensures.1.0
    (subst (λ (l : List RecordType). AllByRecursion (λ (t : RecordType). is_settled c.loop-record_type.self (owner_code c.args.owner.now.labels, type_code t) ≡ true) l) c.in_ok-types.ensures.1.1
    (c.loop-record_type.invariant.1 (is_settled c.loop-record_type.self) (λ p e. e) (all_empty _ c.loop-record_type.types.items (search rules))))
