use Rattle.dns_updates.proofs.UpdateLaws.Laws.{create_code, create_change}
use Rattle.dns_updates.proofs.laws.created_sets_are_added.Goals as goal

pub returns-clause-code : goal.returns-clause-code
returns-clause-code c = λ id origin rows s e h. create_code c.equal_labels_have_equal_lowercase.ensures c.zone_of_ignores_case.ensures origin id rows s e h

pub returns-clause-change : goal.returns-clause-change
returns-clause-change c = λ id origin rows s e h are ok. create_change c.equal_labels_have_equal_lowercase.ensures c.zone_of_ignores_case.ensures origin id rows s e h are ok
