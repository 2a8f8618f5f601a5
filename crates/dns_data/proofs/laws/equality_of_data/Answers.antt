use Rattle.dns_data.specs.contracts.rdata.RDataEq.TheImpl.Laws.{laws-law}
use Rattle.dns_data.proofs.laws.equality_of_data.Goals as goal

pub returns : goal.returns
returns c = laws-law
