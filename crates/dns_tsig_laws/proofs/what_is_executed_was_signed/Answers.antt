use Rattle.dns_tsig_laws.proofs.ExecutedLaws.{executed_is}
use Rattle.dns_tsig_laws.proofs.what_is_executed_was_signed.Goals as goal

pub returns : goal.returns
returns c = executed_is
