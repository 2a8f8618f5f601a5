use Rattle.dns_messages.proofs.SectionOrderLaws.{lent_in_order, owned_in_order}
use Rattle.dns_messages.proofs.laws.sections.sections_come_in_order.Goals as goal

pub returns-clause-order : goal.returns-clause-order
returns-clause-order c = λ it items all. lent_in_order it items all

pub returns-clause-order_by_value : goal.returns-clause-order_by_value
returns-clause-order_by_value c = λ it items all. owned_in_order it items all
