use Rattle.std.proofs.Common.{None, Some, refl, sym, ap, ◌∙◌, rules}
use Rattle.std.proofs.lemmas.Result.{err_from_is_err_and}
use Rattle.dns_wire.specs.declared.codes.record_type.RecordType.TheVariants as types
use Rattle.dns_wire.specs.declared.codes.record_type.RecordType.{RecordType}
use Rattle.dns_data.specs.Text.{has_text}
use Rattle.dns_data.specs.rdata.{kinds_of_type, no_text}
use Rattle.dns_data.proofs.TypeLaws.{no_form}
use Rattle.dns_data.proofs.TextSteps.{parsed_as, refused_as}
use Rattle.dns_data.proofs.EarlyLaws.{that_error, fixed_as, decided_as, no_form_early}
use Rattle.dns_data.proofs.rdata.RData.parse.Goals as goal

pub returns-in_err-parse-in-A-clause-refused : goal.returns-in_err-parse-in-A-clause-refused
returns-in_err-parse-in-A-clause-refused c =
    let p = err_from_is_err_and c.from_residual.result c.from_residual.ensures.1 in
    rw (p.1, p.2) (λ other. refused_as types.A _ c.new-tokens.ensures (search rules) refl (c.in_err-parse-in-A.ensures.refused other))

pub returns-in_err-parse-in-AAAA-clause-refused : goal.returns-in_err-parse-in-AAAA-clause-refused
returns-in_err-parse-in-AAAA-clause-refused c =
    let p = err_from_is_err_and c.from_residual-in_err-parse-in-AAAA.result c.from_residual-in_err-parse-in-AAAA.ensures.1 in
    rw (p.1, p.2) (λ other. refused_as types.AAAA _ c.new-tokens.ensures (search rules) refl (c.in_err-parse-in-AAAA.ensures.refused other))

pub returns-in_err-parse-in-CNAME-clause-refused : goal.returns-in_err-parse-in-CNAME-clause-refused
returns-in_err-parse-in-CNAME-clause-refused c =
    let p = err_from_is_err_and c.from_residual-in_err-parse-in-CNAME.result c.from_residual-in_err-parse-in-CNAME.ensures.1 in
    rw (p.1, p.2) (λ other. refused_as types.CNAME _ c.new-tokens.ensures (search rules) refl (c.in_err-parse-in-CNAME.ensures.refused other))

pub returns-in_err-parse-in-NS-clause-refused : goal.returns-in_err-parse-in-NS-clause-refused
returns-in_err-parse-in-NS-clause-refused c =
    let p = err_from_is_err_and c.from_residual-in_err-parse-in-NS.result c.from_residual-in_err-parse-in-NS.ensures.1 in
    rw (p.1, p.2) (λ other. refused_as types.NS _ c.new-tokens.ensures (search rules) refl (c.in_err-parse-in-NS.ensures.refused other))

pub returns-in_err-parse-in-PTR-clause-refused : goal.returns-in_err-parse-in-PTR-clause-refused
returns-in_err-parse-in-PTR-clause-refused c =
    let p = err_from_is_err_and c.from_residual-in_err-parse-in-PTR.result c.from_residual-in_err-parse-in-PTR.ensures.1 in
    rw (p.1, p.2) (λ other. refused_as types.PTR _ c.new-tokens.ensures (search rules) refl (c.in_err-parse-in-PTR.ensures.refused other))

pub returns-in_err-parse-in-MX-clause-refused : goal.returns-in_err-parse-in-MX-clause-refused
returns-in_err-parse-in-MX-clause-refused c =
    let p = err_from_is_err_and c.from_residual-in_err-parse-in-MX.result c.from_residual-in_err-parse-in-MX.ensures.1 in
    rw (p.1, p.2) (λ other. refused_as types.MX _ c.new-tokens.ensures (search rules) refl (c.in_err-parse-in-MX.ensures.refused other))

pub returns-in_err-parse-in-SOA-clause-refused : goal.returns-in_err-parse-in-SOA-clause-refused
returns-in_err-parse-in-SOA-clause-refused c =
    let p = err_from_is_err_and c.from_residual-in_err-parse-in-SOA.result c.from_residual-in_err-parse-in-SOA.ensures.1 in
    rw (p.1, p.2) (λ other. refused_as types.SOA _ c.new-tokens.ensures (search rules) refl (c.in_err-parse-in-SOA.ensures.refused other))

pub returns-in_err-parse-in-SRV-clause-refused : goal.returns-in_err-parse-in-SRV-clause-refused
returns-in_err-parse-in-SRV-clause-refused c =
    let p = err_from_is_err_and c.from_residual-in_err-parse-in-SRV.result c.from_residual-in_err-parse-in-SRV.ensures.1 in
    rw (p.1, p.2) (λ other. refused_as types.SRV _ c.new-tokens.ensures (search rules) refl (c.in_err-parse-in-SRV.ensures.refused other))

pub returns-in_err-parse-in-TXT-clause-refused : goal.returns-in_err-parse-in-TXT-clause-refused
returns-in_err-parse-in-TXT-clause-refused c =
    let p = err_from_is_err_and c.from_residual-in_err-parse-in-TXT.result c.from_residual-in_err-parse-in-TXT.ensures.1 in
    rw (p.1, p.2) (λ other. refused_as types.TXT _ c.new-tokens.ensures (search rules) refl (c.in_err-parse-in-TXT.ensures.refused _ other))

pub returns-in_ok-parse-in-A-clause-parsed : goal.returns-in_ok-parse-in-A-clause-parsed
returns-in_ok-parse-in-A-clause-parsed c = parsed_as _ c.new-tokens.ensures (search rules) refl refl c.in_ok-parse-in-A.ensures.parsed

pub returns-in_ok-parse-in-AAAA-clause-parsed : goal.returns-in_ok-parse-in-AAAA-clause-parsed
returns-in_ok-parse-in-AAAA-clause-parsed c = parsed_as _ c.new-tokens.ensures (search rules) refl refl c.in_ok-parse-in-AAAA.ensures.parsed

pub returns-in_ok-parse-in-TXT-clause-parsed : goal.returns-in_ok-parse-in-TXT-clause-parsed
returns-in_ok-parse-in-TXT-clause-parsed c = parsed_as _ c.new-tokens.ensures (search rules) refl refl (c.in_ok-parse-in-TXT.ensures.parsed None)

pub returns-in_err-parse-in-A-clause-fixed : goal.returns-in_err-parse-in-A-clause-fixed
returns-in_err-parse-in-A-clause-fixed c =
    let p = err_from_is_err_and c.from_residual.result c.from_residual.ensures.1 in
    rw (p.1, p.2) (λ fixed memory. fixed_as _ c.args.record_type types.A _ _ _ c.new-tokens.ensures (search rules) c.in_err-parse-in-A.ensures.early fixed (ap Some memory))

pub returns-in_err-parse-in-A-clause-fault : goal.returns-in_err-parse-in-A-clause-fault
returns-in_err-parse-in-A-clause-fault c =
    let p = err_from_is_err_and c.from_residual.result c.from_residual.ensures.1 in
    rw (p.1, p.2) (λ error refused. that_error _ _ error refl (decided_as _ c.args.record_type types.A _ _ _ c.new-tokens.ensures (search rules) refl c.in_err-parse-in-A.ensures.early error refused))

pub returns-in_ok-parse-in-A-clause-fault : goal.returns-in_ok-parse-in-A-clause-fault
returns-in_ok-parse-in-A-clause-fault c = λ error refused.
    let none = decided_as _ c.args.record_type types.A _ _ None c.new-tokens.ensures (search rules) refl c.in_ok-parse-in-A.ensures.early error refused in
    absurd (cc none)

pub returns-in_err-parse-in-AAAA-clause-fixed : goal.returns-in_err-parse-in-AAAA-clause-fixed
returns-in_err-parse-in-AAAA-clause-fixed c =
    let p = err_from_is_err_and c.from_residual-in_err-parse-in-AAAA.result c.from_residual-in_err-parse-in-AAAA.ensures.1 in
    rw (p.1, p.2) (λ fixed memory. fixed_as _ c.args.record_type types.AAAA _ _ _ c.new-tokens.ensures (search rules) c.in_err-parse-in-AAAA.ensures.early fixed (ap Some memory))

pub returns-in_err-parse-in-AAAA-clause-fault : goal.returns-in_err-parse-in-AAAA-clause-fault
returns-in_err-parse-in-AAAA-clause-fault c =
    let p = err_from_is_err_and c.from_residual-in_err-parse-in-AAAA.result c.from_residual-in_err-parse-in-AAAA.ensures.1 in
    rw (p.1, p.2) (λ error refused. that_error _ _ error refl (decided_as _ c.args.record_type types.AAAA _ _ _ c.new-tokens.ensures (search rules) refl c.in_err-parse-in-AAAA.ensures.early error refused))

pub returns-in_ok-parse-in-AAAA-clause-fault : goal.returns-in_ok-parse-in-AAAA-clause-fault
returns-in_ok-parse-in-AAAA-clause-fault c = λ error refused.
    let none = decided_as _ c.args.record_type types.AAAA _ _ None c.new-tokens.ensures (search rules) refl c.in_ok-parse-in-AAAA.ensures.early error refused in
    absurd (cc none)

pub returns-in_err-parse-in-CNAME-clause-fixed : goal.returns-in_err-parse-in-CNAME-clause-fixed
returns-in_err-parse-in-CNAME-clause-fixed c =
    let p = err_from_is_err_and c.from_residual-in_err-parse-in-CNAME.result c.from_residual-in_err-parse-in-CNAME.ensures.1 in
    rw (p.1, p.2) (λ fixed memory. fixed_as _ c.args.record_type types.CNAME _ _ _ c.new-tokens.ensures (search rules) c.in_err-parse-in-CNAME.ensures.early fixed (ap Some memory))

pub returns-in_err-parse-in-CNAME-clause-fault : goal.returns-in_err-parse-in-CNAME-clause-fault
returns-in_err-parse-in-CNAME-clause-fault c =
    let p = err_from_is_err_and c.from_residual-in_err-parse-in-CNAME.result c.from_residual-in_err-parse-in-CNAME.ensures.1 in
    rw (p.1, p.2) (λ error refused. that_error _ _ error refl (decided_as _ c.args.record_type types.CNAME _ _ _ c.new-tokens.ensures (search rules) refl c.in_err-parse-in-CNAME.ensures.early error refused))

pub returns-in_ok-parse-in-CNAME-clause-fault : goal.returns-in_ok-parse-in-CNAME-clause-fault
returns-in_ok-parse-in-CNAME-clause-fault c = λ error refused.
    let none = decided_as _ c.args.record_type types.CNAME _ _ None c.new-tokens.ensures (search rules) refl c.in_ok-parse-in-CNAME.ensures.early error refused in
    absurd (cc none)

pub returns-in_err-parse-in-NS-clause-fixed : goal.returns-in_err-parse-in-NS-clause-fixed
returns-in_err-parse-in-NS-clause-fixed c =
    let p = err_from_is_err_and c.from_residual-in_err-parse-in-NS.result c.from_residual-in_err-parse-in-NS.ensures.1 in
    rw (p.1, p.2) (λ fixed memory. fixed_as _ c.args.record_type types.NS _ _ _ c.new-tokens.ensures (search rules) c.in_err-parse-in-NS.ensures.early fixed (ap Some memory))

pub returns-in_err-parse-in-NS-clause-fault : goal.returns-in_err-parse-in-NS-clause-fault
returns-in_err-parse-in-NS-clause-fault c =
    let p = err_from_is_err_and c.from_residual-in_err-parse-in-NS.result c.from_residual-in_err-parse-in-NS.ensures.1 in
    rw (p.1, p.2) (λ error refused. that_error _ _ error refl (decided_as _ c.args.record_type types.NS _ _ _ c.new-tokens.ensures (search rules) refl c.in_err-parse-in-NS.ensures.early error refused))

pub returns-in_ok-parse-in-NS-clause-fault : goal.returns-in_ok-parse-in-NS-clause-fault
returns-in_ok-parse-in-NS-clause-fault c = λ error refused.
    let none = decided_as _ c.args.record_type types.NS _ _ None c.new-tokens.ensures (search rules) refl c.in_ok-parse-in-NS.ensures.early error refused in
    absurd (cc none)

pub returns-in_err-parse-in-PTR-clause-fixed : goal.returns-in_err-parse-in-PTR-clause-fixed
returns-in_err-parse-in-PTR-clause-fixed c =
    let p = err_from_is_err_and c.from_residual-in_err-parse-in-PTR.result c.from_residual-in_err-parse-in-PTR.ensures.1 in
    rw (p.1, p.2) (λ fixed memory. fixed_as _ c.args.record_type types.PTR _ _ _ c.new-tokens.ensures (search rules) c.in_err-parse-in-PTR.ensures.early fixed (ap Some memory))

pub returns-in_err-parse-in-PTR-clause-fault : goal.returns-in_err-parse-in-PTR-clause-fault
returns-in_err-parse-in-PTR-clause-fault c =
    let p = err_from_is_err_and c.from_residual-in_err-parse-in-PTR.result c.from_residual-in_err-parse-in-PTR.ensures.1 in
    rw (p.1, p.2) (λ error refused. that_error _ _ error refl (decided_as _ c.args.record_type types.PTR _ _ _ c.new-tokens.ensures (search rules) refl c.in_err-parse-in-PTR.ensures.early error refused))

pub returns-in_ok-parse-in-PTR-clause-fault : goal.returns-in_ok-parse-in-PTR-clause-fault
returns-in_ok-parse-in-PTR-clause-fault c = λ error refused.
    let none = decided_as _ c.args.record_type types.PTR _ _ None c.new-tokens.ensures (search rules) refl c.in_ok-parse-in-PTR.ensures.early error refused in
    absurd (cc none)

pub returns-in_err-parse-in-MX-clause-fixed : goal.returns-in_err-parse-in-MX-clause-fixed
returns-in_err-parse-in-MX-clause-fixed c =
    let p = err_from_is_err_and c.from_residual-in_err-parse-in-MX.result c.from_residual-in_err-parse-in-MX.ensures.1 in
    rw (p.1, p.2) (λ fixed memory. fixed_as _ c.args.record_type types.MX _ _ _ c.new-tokens.ensures (search rules) c.in_err-parse-in-MX.ensures.early fixed (ap Some memory))

pub returns-in_err-parse-in-MX-clause-fault : goal.returns-in_err-parse-in-MX-clause-fault
returns-in_err-parse-in-MX-clause-fault c =
    let p = err_from_is_err_and c.from_residual-in_err-parse-in-MX.result c.from_residual-in_err-parse-in-MX.ensures.1 in
    rw (p.1, p.2) (λ error refused. that_error _ _ error refl (decided_as _ c.args.record_type types.MX _ _ _ c.new-tokens.ensures (search rules) refl c.in_err-parse-in-MX.ensures.early error refused))

pub returns-in_ok-parse-in-MX-clause-fault : goal.returns-in_ok-parse-in-MX-clause-fault
returns-in_ok-parse-in-MX-clause-fault c = λ error refused.
    let none = decided_as _ c.args.record_type types.MX _ _ None c.new-tokens.ensures (search rules) refl c.in_ok-parse-in-MX.ensures.early error refused in
    absurd (cc none)

pub returns-in_err-parse-in-SOA-clause-fixed : goal.returns-in_err-parse-in-SOA-clause-fixed
returns-in_err-parse-in-SOA-clause-fixed c =
    let p = err_from_is_err_and c.from_residual-in_err-parse-in-SOA.result c.from_residual-in_err-parse-in-SOA.ensures.1 in
    rw (p.1, p.2) (λ fixed memory. fixed_as _ c.args.record_type types.SOA _ _ _ c.new-tokens.ensures (search rules) c.in_err-parse-in-SOA.ensures.early fixed (ap Some memory))

pub returns-in_err-parse-in-SOA-clause-fault : goal.returns-in_err-parse-in-SOA-clause-fault
returns-in_err-parse-in-SOA-clause-fault c =
    let p = err_from_is_err_and c.from_residual-in_err-parse-in-SOA.result c.from_residual-in_err-parse-in-SOA.ensures.1 in
    rw (p.1, p.2) (λ error refused. that_error _ _ error refl (decided_as _ c.args.record_type types.SOA _ _ _ c.new-tokens.ensures (search rules) refl c.in_err-parse-in-SOA.ensures.early error refused))

pub returns-in_ok-parse-in-SOA-clause-fault : goal.returns-in_ok-parse-in-SOA-clause-fault
returns-in_ok-parse-in-SOA-clause-fault c = λ error refused.
    let none = decided_as _ c.args.record_type types.SOA _ _ None c.new-tokens.ensures (search rules) refl c.in_ok-parse-in-SOA.ensures.early error refused in
    absurd (cc none)

pub returns-in_err-parse-in-SRV-clause-fixed : goal.returns-in_err-parse-in-SRV-clause-fixed
returns-in_err-parse-in-SRV-clause-fixed c =
    let p = err_from_is_err_and c.from_residual-in_err-parse-in-SRV.result c.from_residual-in_err-parse-in-SRV.ensures.1 in
    rw (p.1, p.2) (λ fixed memory. fixed_as _ c.args.record_type types.SRV _ _ _ c.new-tokens.ensures (search rules) c.in_err-parse-in-SRV.ensures.early fixed (ap Some memory))

pub returns-in_err-parse-in-SRV-clause-fault : goal.returns-in_err-parse-in-SRV-clause-fault
returns-in_err-parse-in-SRV-clause-fault c =
    let p = err_from_is_err_and c.from_residual-in_err-parse-in-SRV.result c.from_residual-in_err-parse-in-SRV.ensures.1 in
    rw (p.1, p.2) (λ error refused. that_error _ _ error refl (decided_as _ c.args.record_type types.SRV _ _ _ c.new-tokens.ensures (search rules) refl c.in_err-parse-in-SRV.ensures.early error refused))

pub returns-in_ok-parse-in-SRV-clause-fault : goal.returns-in_ok-parse-in-SRV-clause-fault
returns-in_ok-parse-in-SRV-clause-fault c = λ error refused.
    let none = decided_as _ c.args.record_type types.SRV _ _ None c.new-tokens.ensures (search rules) refl c.in_ok-parse-in-SRV.ensures.early error refused in
    absurd (cc none)

pub returns-in_err-parse-in-TXT-clause-fixed : goal.returns-in_err-parse-in-TXT-clause-fixed
returns-in_err-parse-in-TXT-clause-fixed c =
    let p = err_from_is_err_and c.from_residual-in_err-parse-in-TXT.result c.from_residual-in_err-parse-in-TXT.ensures.1 in
    rw (p.1, p.2) (λ fixed memory. fixed_as None c.args.record_type types.TXT _ _ _ c.new-tokens.ensures (search rules) (c.in_err-parse-in-TXT.ensures.early None) fixed (ap Some memory))

pub returns-in_err-parse-in-TXT-clause-fault : goal.returns-in_err-parse-in-TXT-clause-fault
returns-in_err-parse-in-TXT-clause-fault c =
    let p = err_from_is_err_and c.from_residual-in_err-parse-in-TXT.result c.from_residual-in_err-parse-in-TXT.ensures.1 in
    rw (p.1, p.2) (λ error refused. that_error _ _ error refl (decided_as _ c.args.record_type types.TXT _ _ _ c.new-tokens.ensures (search rules) refl (c.in_err-parse-in-TXT.ensures.early _) error refused))

pub returns-in_ok-parse-in-TXT-clause-fault : goal.returns-in_ok-parse-in-TXT-clause-fault
returns-in_ok-parse-in-TXT-clause-fault c = λ error refused.
    let none = decided_as _ c.args.record_type types.TXT _ _ None c.new-tokens.ensures (search rules) refl (c.in_ok-parse-in-TXT.ensures.early _) error refused in
    absurd (cc none)

pub returns-in_default : goal.returns-in_default
returns-in_default c =
    let same = c.canonical.ensures in
    let others = c.in_default in
    record {
      parsed = tt;
      refused = λ other. no_text (ap (λ (t : RecordType). has_text (kinds_of_type t)) (sym same)
          ∙ no_form c.canonical.result others.not-A others.not-AAAA others.not-CNAME others.not-NS others.not-PTR others.not-MX others.not-SOA others.not-SRV others.not-TXT);
      fixed = λ _ memory. absurd (cc memory);
      fault = λ error refused. no_form_early _ error refl (ap (λ (t : RecordType). has_text (kinds_of_type t)) (sym same)
          ∙ no_form c.canonical.result others.not-A others.not-AAAA others.not-CNAME others.not-NS others.not-PTR others.not-MX others.not-SOA others.not-SRV others.not-TXT) refused;
    }
