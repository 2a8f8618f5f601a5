use Rattle.dns_updates.proofs.UpdateLaws.Laws.{swap_code, swap_change}
use Rattle.dns_updates.proofs.laws.swapped_sets_are_replaced.Goals as goal

pub returns-clause-code : goal.returns-clause-code
returns-clause-code c = λ id origin rows old new e h k some. swap_code c.equal_labels_have_equal_lowercase.ensures c.zone_of_ignores_case.ensures origin id rows old new e h k some

pub returns-clause-change : goal.returns-clause-change
returns-clause-change c = λ id origin rows old new e h k some names types are ok. swap_change c.equal_labels_have_equal_lowercase.ensures c.zone_of_ignores_case.ensures origin id rows old new e h k some names types are ok
