use Rattle.dns_tsig_laws.proofs.CodeLaws.{of_holder}
use Rattle.dns_tsig_laws.proofs.verified_requests_are_of_holders.Goals as goal

pub returns : goal.returns
returns c = of_holder
