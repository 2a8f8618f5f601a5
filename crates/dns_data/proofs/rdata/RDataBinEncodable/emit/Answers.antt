use Rattle.std.proofs.Common.{List, ℕ, [], ◌∷◌, subst}
use Rattle.dns_wire.specs.Encoder.{state_of}
use Rattle.dns_wire.specs.Encodable.{Plain, Emits}
use Rattle.dns_data.proofs.rdata.RDataBinEncodable.emit.Goals as goal

pub returns-in-A-clause-emits : goal.returns-in-A-clause-emits
returns-in-A-clause-emits c = rw c.in-A.is c.emit.ensures.emits

pub returns-in-AAAA-clause-emits : goal.returns-in-AAAA-clause-emits
returns-in-AAAA-clause-emits c = rw c.in-AAAA.is c.emit-in-AAAA.ensures.emits

pub returns-in-CNAME-clause-emits : goal.returns-in-CNAME-clause-emits
returns-in-CNAME-clause-emits c = rw c.in-CNAME.is c.emit-in-CNAME.ensures.emits

pub returns-in-CNAME-clause-writable : goal.returns-in-CNAME-clause-writable
returns-in-CNAME-clause-writable c = rw c.in-CNAME.is c.emit-in-CNAME.ensures.writable

pub returns-in-NS-clause-emits : goal.returns-in-NS-clause-emits
returns-in-NS-clause-emits c = rw c.in-NS.is c.emit-in-NS.ensures.emits

pub returns-in-NS-clause-writable : goal.returns-in-NS-clause-writable
returns-in-NS-clause-writable c = rw c.in-NS.is c.emit-in-NS.ensures.writable

pub returns-in-PTR-clause-emits : goal.returns-in-PTR-clause-emits
returns-in-PTR-clause-emits c = rw c.in-PTR.is c.emit-in-PTR.ensures.emits

pub returns-in-PTR-clause-writable : goal.returns-in-PTR-clause-writable
returns-in-PTR-clause-writable c = rw c.in-PTR.is c.emit-in-PTR.ensures.writable

pub returns-in-MX-clause-emits : goal.returns-in-MX-clause-emits
returns-in-MX-clause-emits c = rw c.in-MX.is c.emit-in-MX.ensures.emits

pub returns-in-MX-clause-writable : goal.returns-in-MX-clause-writable
returns-in-MX-clause-writable c = rw c.in-MX.is c.emit-in-MX.ensures.writable

pub returns-in-SOA-clause-emits : goal.returns-in-SOA-clause-emits
returns-in-SOA-clause-emits c = rw c.in-SOA.is c.emit-in-SOA.ensures.emits

pub returns-in-SOA-clause-writable : goal.returns-in-SOA-clause-writable
returns-in-SOA-clause-writable c = rw c.in-SOA.is c.emit-in-SOA.ensures.writable

pub returns-in-SRV-clause-emits : goal.returns-in-SRV-clause-emits
returns-in-SRV-clause-emits c = rw c.in-SRV.is c.emit-in-SRV.ensures.emits

pub returns-in-SRV-clause-writable : goal.returns-in-SRV-clause-writable
returns-in-SRV-clause-writable c = rw c.in-SRV.is c.emit-in-SRV.ensures.writable

pub returns-in-TXT-clause-emits : goal.returns-in-TXT-clause-emits
returns-in-TXT-clause-emits c = rw c.in-TXT.is c.emit-in-TXT.ensures.emits

pub returns-in-TXT-clause-writable : goal.returns-in-TXT-clause-writable
returns-in-TXT-clause-writable c = rw c.in-TXT.is c.emit-in-TXT.ensures.writable

pub returns-in-OPT-clause-emits : goal.returns-in-OPT-clause-emits
returns-in-OPT-clause-emits c = rw c.in-OPT.is c.emit-in-OPT.ensures.emits

pub returns-in-OPT-clause-writable : goal.returns-in-OPT-clause-writable
returns-in-OPT-clause-writable c = rw c.in-OPT.is c.emit-in-OPT.ensures.writable

pub returns-in-Unknown-clause-emits : goal.returns-in-Unknown-clause-emits
returns-in-Unknown-clause-emits c =
    rw c.in-Unknown.is (subst (λ (bytes : List ℕ). Emits (state_of c.args.encoder.now) (Plain bytes ∷ []) c.emit_vec.result (state_of c.emit_vec.new.self)) c.as_slice.ensures.value (c.emit_vec.ensures.at_end c.requires))
