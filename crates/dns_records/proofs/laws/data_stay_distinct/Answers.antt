use Rattle.dns_records.proofs.RecordSetLaws.{inserted_distinct, removed_distinct}
use Rattle.dns_records.proofs.laws.data_stay_distinct.Goals as goal

pub returns-clause-inserted : goal.returns-clause-inserted
returns-clause-inserted g c = λ rdata xs x distinct. inserted_distinct rdata xs x distinct

pub returns-clause-removed : goal.returns-clause-removed
returns-clause-removed g c = λ rdata t xs d distinct. removed_distinct rdata t xs d distinct
