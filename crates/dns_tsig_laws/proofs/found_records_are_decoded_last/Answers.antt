use Rattle.dns_tsig_laws.proofs.FoundLaws.{found_decoded}
use Rattle.dns_tsig_laws.proofs.found_records_are_decoded_last.Goals as goal

pub returns : goal.returns
returns c = found_decoded
