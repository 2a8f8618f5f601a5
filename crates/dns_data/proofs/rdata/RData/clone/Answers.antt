use Rattle.std.proofs.Common.{subst}
use Rattle.dns_data.specs.rdata.{IsInlineData}
use Rattle.dns_data.proofs.rdata.RData.clone.Goals as goal

pub returns-in_err-clone-in-CNAME-clause-inline : goal.returns-in_err-clone-in-CNAME-clause-inline
returns-in_err-clone-in-CNAME-clause-inline c = λ inline. let no = c.in_err-clone-in-CNAME.ensures.inline (subst IsInlineData c.in-CNAME.is inline) in absurd (cc no)

pub returns-in_err-clone-in-NS-clause-inline : goal.returns-in_err-clone-in-NS-clause-inline
returns-in_err-clone-in-NS-clause-inline c = λ inline. let no = c.in_err-clone-in-NS.ensures.inline (subst IsInlineData c.in-NS.is inline) in absurd (cc no)

pub returns-in_err-clone-in-PTR-clause-inline : goal.returns-in_err-clone-in-PTR-clause-inline
returns-in_err-clone-in-PTR-clause-inline c = λ inline. let no = c.in_err-clone-in-PTR.ensures.inline (subst IsInlineData c.in-PTR.is inline) in absurd (cc no)

pub returns-in_err-clone-in-MX-clause-inline : goal.returns-in_err-clone-in-MX-clause-inline
returns-in_err-clone-in-MX-clause-inline c = λ inline. let no = c.in_err-clone-in-MX.ensures.inline (subst IsInlineData c.in-MX.is inline) in absurd (cc no)

pub returns-in_err-clone-in-SOA-clause-inline : goal.returns-in_err-clone-in-SOA-clause-inline
returns-in_err-clone-in-SOA-clause-inline c = λ inline. let no = c.in_err-clone-in-SOA.ensures.inline (subst IsInlineData c.in-SOA.is inline) in absurd (cc no)

pub returns-in_err-clone-in-SRV-clause-inline : goal.returns-in_err-clone-in-SRV-clause-inline
returns-in_err-clone-in-SRV-clause-inline c = λ inline. let no = c.in_err-clone-in-SRV.ensures.inline (subst IsInlineData c.in-SRV.is inline) in absurd (cc no)

pub returns-in_err-clone-in-TXT-clause-inline : goal.returns-in_err-clone-in-TXT-clause-inline
returns-in_err-clone-in-TXT-clause-inline c = λ inline. let no = c.in_err-clone-in-TXT.ensures.inline (subst IsInlineData c.in-TXT.is inline) in absurd (cc no)

pub returns-in_err-clone-in-OPT-clause-inline : goal.returns-in_err-clone-in-OPT-clause-inline
returns-in_err-clone-in-OPT-clause-inline c = λ inline. let no = c.in_err-clone-in-OPT.ensures.inline (subst IsInlineData c.in-OPT.is inline) in absurd (cc no)

pub returns-in_err-clone-in-Unknown-clause-inline : goal.returns-in_err-clone-in-Unknown-clause-inline
returns-in_err-clone-in-Unknown-clause-inline c = λ inline. let no = c.in_err-clone-in-Unknown.ensures.empty (subst IsInlineData c.in-Unknown.is inline).0 in absurd (cc no)
