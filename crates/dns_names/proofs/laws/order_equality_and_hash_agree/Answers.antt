use Rattle.dns_names.specs.internal.Compare.{names_agree, hashed_alike}
use Rattle.dns_names.proofs.laws.order_equality_and_hash_agree.Goals as goal

pub returns-clause-order : goal.returns-clause-order
returns-clause-order c = names_agree

pub returns-clause-hash : goal.returns-clause-hash
returns-clause-hash c = hashed_alike
