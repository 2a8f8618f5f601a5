use Rattle.dns_updates.proofs.UpdateLaws.Laws.{append_code, append_change}
use Rattle.dns_updates.proofs.laws.appended_records_are_added.Goals as goal

pub returns-clause-code : goal.returns-clause-code
returns-clause-code c = λ id origin rows s m e h. append_code c.equal_labels_have_equal_lowercase.ensures c.zone_of_ignores_case.ensures origin id rows s m e h

pub returns-clause-change : goal.returns-clause-change
returns-clause-change c = λ id origin rows s m e h are ok. append_change c.equal_labels_have_equal_lowercase.ensures c.zone_of_ignores_case.ensures origin id rows s m e h are ok
