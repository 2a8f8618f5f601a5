use Rattle.std.proofs.Common.{◌≡◌, true, false, [], ◌∷◌, ◌∙◌, length, ap, arith, length-append}
use Rattle.dns_wire.specs.Name.{name_len}
use Rattle.dns_names.specs.Name.{DomainName}
use Rattle.dns_names.proofs.Underway.{name_len-push}
use Rattle.dns_names.proofs.name.Name.push_short.Goals as goal

pub returns-clause-len : goal.returns-clause-len
returns-clause-len c = ap (λ (n : DomainName). name_len n.labels) c.in_ok-push.ensures.ok ∙ name_len-push c.args.self.now.labels c.args.label.now

pub returns-in_err-push-clause-inline : goal.returns-in_err-push-clause-inline
returns-in_err-push-clause-inline c = λ few short.
    let count = length-append c.args.self.now.labels (c.args.label.now ∷ []) in
    let clash : false ≡ true = c.in_err-push.ensures.inline (record {
      few = omega (arith, few, count);
      short = omega (arith, short, count, name_len-push c.args.self.now.labels c.args.label.now);
    }) in
    absurd (cc)

pub returns-clause-count : goal.returns-clause-count
returns-clause-count c = ap (λ (n : DomainName). length n.labels) c.in_ok-push.ensures.ok ∙ length-append c.args.self.now.labels (c.args.label.now ∷ [])
