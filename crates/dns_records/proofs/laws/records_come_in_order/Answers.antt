use Rattle.dns_records.proofs.RecordsLaws.{records_in_order, owned_in_order}
use Rattle.dns_records.proofs.laws.records_come_in_order.Goals as goal

pub returns-clause-order : goal.returns-clause-order
returns-clause-order c = λ it items all. records_in_order it items all

pub returns-clause-order_by_value : goal.returns-clause-order_by_value
returns-clause-order_by_value c = λ set it items gives all. owned_in_order it set.records items gives.0 gives.1 all
