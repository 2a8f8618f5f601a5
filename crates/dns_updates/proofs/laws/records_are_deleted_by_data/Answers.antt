use Rattle.dns_updates.proofs.UpdateLaws.Laws.{delete_by_rdata_code, delete_by_rdata_change}
use Rattle.dns_updates.proofs.laws.records_are_deleted_by_data.Goals as goal

pub returns-clause-code : goal.returns-clause-code
returns-clause-code c = λ id origin rows s e h. delete_by_rdata_code c.equal_labels_have_equal_lowercase.ensures c.zone_of_ignores_case.ensures origin id rows s e h

pub returns-clause-change : goal.returns-clause-change
returns-clause-change c = λ id origin rows s e h filled. delete_by_rdata_change c.equal_labels_have_equal_lowercase.ensures c.zone_of_ignores_case.ensures origin id rows s e h filled
