use Rattle.dns_tsig_laws.proofs.SameLaws.{same_signed}
use Rattle.dns_tsig_laws.proofs.covered_texts_are_unambiguous.Goals as goal

pub returns : goal.returns
returns c = same_signed
