use Rattle.dns_data.proofs.EmissionLaws.{strings_writable}
use Rattle.dns_data.proofs.rdata.txt.TXTBinEncodable.emit.Goals as goal

pub returns-clause-writable : goal.returns-clause-writable
returns-clause-writable c = λ ok. strings_writable c.args.self.now
