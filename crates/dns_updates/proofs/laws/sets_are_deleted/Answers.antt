use Rattle.dns_updates.proofs.UpdateLaws.Laws.{delete_rrset_code, delete_rrset_change}
use Rattle.dns_updates.proofs.laws.sets_are_deleted.Goals as goal

pub returns-clause-code : goal.returns-clause-code
returns-clause-code c = λ id origin rows r e zone class transfer. delete_rrset_code c.equal_labels_have_equal_lowercase.ensures c.zone_of_ignores_case.ensures origin id rows r e zone class transfer

pub returns-clause-change : goal.returns-clause-change
returns-clause-change c = λ id origin rows r e any. delete_rrset_change c.equal_labels_have_equal_lowercase.ensures c.zone_of_ignores_case.ensures origin id rows r e any
