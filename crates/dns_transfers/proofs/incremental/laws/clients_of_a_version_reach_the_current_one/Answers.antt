use Rattle.dns_transfers.proofs.ClientLaws.{client_reaches}
use Rattle.dns_transfers.proofs.incremental.laws.clients_of_a_version_reach_the_current_one.Goals as goal

pub returns : goal.returns
returns c = client_reaches
