use Rattle.dns_durable.proofs.HistoryLaws.{genuine_last}
use Rattle.dns_durable.proofs.laws.only_the_last_write_has_to_be_genuine.Goals as goal

pub returns : goal.returns
returns c = genuine_last
