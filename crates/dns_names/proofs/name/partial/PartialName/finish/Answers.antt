use Rattle.std.proofs.Common.{◌≡◌, true, false, sym, arith}
use Rattle.std.proofs.lemmas.Result.{err_from_is_err_and}
use Rattle.dns_names.proofs.InlineText.{refused_end}
use Rattle.dns_names.proofs.name.partial.PartialName.finish.Goals as goal

pub returns-in_err-end_label-clause-inline : goal.returns-in_err-end_label-clause-inline
returns-in_err-end_label-clause-inline c =
    let p = err_from_is_err_and c.from_residual.result c.from_residual.ensures.1 in
    rw (p.1, p.2) (λ inline. sym (refused_end c.args.self c.in_err-end_label.field-0.0 (omega (arith, c.label_len-2.ensures, c.if-label_len-gt0.true))
    (λ error f. let same = c.in_err-end_label.ensures.fault error f in cc)
    (λ next f is. let clash : false ≡ true = c.in_err-end_label.ensures.inline next f is in absurd (cc))
    inline))
