use Rattle.dns_transfers.proofs.SourceLaws.{differences_arrive}
use Rattle.dns_transfers.proofs.incremental.laws.incremental_transfers_have_all_records.Goals as goal

pub returns : goal.returns
returns c = differences_arrive
