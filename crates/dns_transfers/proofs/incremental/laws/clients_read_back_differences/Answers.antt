use Rattle.dns_transfers.proofs.ClientLaws.{reads_back, reads_only}
use Rattle.dns_transfers.proofs.incremental.laws.clients_read_back_differences.Goals as goal

pub returns : goal.returns
returns c = record { read = reads_back; only = reads_only }
