use Rattle.std.proofs.Common.{ap, ◌∙◌, ℕ}
use Rattle.dns_wire.specs.declared.codes.dns_class.DNSClass.{DNSClass}
use Rattle.dns_data.specs.declared.rdata.RData.{RData}
use Rattle.dns_names.specs.Name.{DomainName}
use Rattle.dns_records.proofs.laws.copies_are_identical.Goals as goal

pub returns : goal.returns
returns c r copy same =
    ap (λ (n : DomainName). record copy { name = n }) same.name
    ∙ ap (λ (k : DNSClass). record copy { name = r.name; dns_class = k }) same.dns_class
    ∙ ap (λ (n : ℕ). record copy { name = r.name; dns_class = r.dns_class; ttl = n }) same.ttl
    ∙ ap (λ (d : RData). record r { rdata = d }) same.rdata
