use Rattle.dns_server.proofs.HistoryLaws.{history}
use Rattle.dns_server.proofs.laws.zones_change_by_their_updates.Goals as goal

pub returns : goal.returns
returns c = history
