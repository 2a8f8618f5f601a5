use Rattle.dns_durable.proofs.HistoryLaws.{outlasts}
use Rattle.dns_durable.proofs.laws.acknowledged_updates_outlast_crashes.Goals as goal

pub returns : goal.returns
returns c = outlasts
