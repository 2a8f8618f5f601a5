use Rattle.dns_data.specs.internal.DataOrder.{data_cmp-total, data_tie}
use Rattle.dns_data.proofs.laws.order_of_data.Goals as goal

pub returns-clause-total : goal.returns-clause-total
returns-clause-total c = data_cmp-total

pub returns-clause-equal : goal.returns-clause-equal
returns-clause-equal c x y = data_tie x y
