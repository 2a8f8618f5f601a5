use Rattle.std.proofs.Common.{List, ℕ, length, sym, ap, ◌∙◌}
use Rattle.std.proofs.lemmas.List.{append-nil}
use Rattle.dns_data.proofs.rdata.RData.encoded_len.Goals as goal

pub returns-in-A : goal.returns-in-A
returns-in-A c = rw c.in-A.is c.encoded_len.ensures

pub returns-in-AAAA : goal.returns-in-AAAA
returns-in-AAAA c = rw c.in-AAAA.is c.encoded_len-in-AAAA.ensures

pub returns-in-CNAME : goal.returns-in-CNAME
returns-in-CNAME c = rw c.in-CNAME.is c.encoded_len-in-CNAME.ensures

pub returns-in-NS : goal.returns-in-NS
returns-in-NS c = rw c.in-NS.is c.encoded_len-in-NS.ensures

pub returns-in-PTR : goal.returns-in-PTR
returns-in-PTR c = rw c.in-PTR.is c.encoded_len-in-PTR.ensures

pub returns-in-MX : goal.returns-in-MX
returns-in-MX c = rw c.in-MX.is c.encoded_len-in-MX.ensures

pub returns-in-SOA : goal.returns-in-SOA
returns-in-SOA c = rw c.in-SOA.is c.encoded_len-in-SOA.ensures

pub returns-in-SRV : goal.returns-in-SRV
returns-in-SRV c = rw c.in-SRV.is c.encoded_len-in-SRV.ensures

pub returns-in-TXT : goal.returns-in-TXT
returns-in-TXT c = rw c.in-TXT.is c.encoded_len-in-TXT.ensures

pub returns-in-OPT : goal.returns-in-OPT
returns-in-OPT c = rw c.in-OPT.is c.encoded_len-in-OPT.ensures

pub returns-in-Unknown : goal.returns-in-Unknown
returns-in-Unknown c = rw c.in-Unknown.is (ap (λ (l : List ℕ). length l) (c.as_slice.ensures.value ∙ sym (append-nil c.in-Unknown.rdata)))
