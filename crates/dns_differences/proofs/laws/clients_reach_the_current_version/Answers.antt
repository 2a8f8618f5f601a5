use Rattle.dns_differences.proofs.HistoryLaws.{reaches}
use Rattle.dns_differences.proofs.laws.clients_reach_the_current_version.Goals as goal

pub returns : goal.returns
returns c = reaches
