use Rattle.dns_updates.proofs.UpdateLaws.Laws.{delete_all_code, delete_all_change}
use Rattle.dns_updates.proofs.laws.names_are_deleted.Goals as goal

pub returns-clause-code : goal.returns-clause-code
returns-clause-code c = λ id origin rows owner d e zone class. delete_all_code c.equal_labels_have_equal_lowercase.ensures c.zone_of_ignores_case.ensures origin id rows owner d e zone class

pub returns-clause-change : goal.returns-clause-change
returns-clause-change c = λ id origin rows owner d e. delete_all_change c.equal_labels_have_equal_lowercase.ensures c.zone_of_ignores_case.ensures origin id rows owner d e
