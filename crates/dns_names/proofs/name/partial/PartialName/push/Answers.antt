use Rattle.std.proofs.Common.{◌≡◌, ◌+◌, ◌≤◌, true, false, length, arith}
use Rattle.dns_names.proofs.InlineLaws.{octet_fits}
use Rattle.dns_names.proofs.name.partial.PartialName.push.Goals as goal

pub returns-in_err-push-clause-inline : goal.returns-in_err-push-clause-inline
returns-in_err-push-clause-inline c =
    let count = c.self.inside.label_count in
    let bytes = c.self.inside.wire.items in
    rw (← c.self.view_is)
    (λ is.
    let fits : length bytes + 1 ≤ 56 = octet_fits count bytes c.self.inside.label_start c.args.octet c.self.invariant is in
    let clash : false ≡ true = c.in_err-push.ensures.succeeds (omega (arith, fits, c.capacity.ensures.value, c.capacity.ensures.at_least_inline)) in
    absurd (cc))
