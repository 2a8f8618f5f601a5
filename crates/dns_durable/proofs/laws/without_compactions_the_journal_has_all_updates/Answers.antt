use Rattle.dns_durable.proofs.HistoryLaws.{batches_outlast}
use Rattle.dns_durable.proofs.laws.without_compactions_the_journal_has_all_updates.Goals as goal

pub returns : goal.returns
returns c = batches_outlast
