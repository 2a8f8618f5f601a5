use Rattle.dns_data.proofs.EmissionLaws.{options_writable}
use Rattle.dns_data.proofs.rdata.opt.OPTBinEncodable.emit.Goals as goal

pub returns-clause-writable : goal.returns-clause-writable
returns-clause-writable c = λ ok. options_writable c.args.self.now
