use Rattle.std.proofs.Common.{None, Some}
use Rattle.std.proofs.lemmas.Result.{err_from_is_err_and}
use Rattle.dns_data.proofs.TextSteps.{left_over}
use Rattle.dns_data.proofs.EarlyLaws.{nothing_parsed}
use Rattle.dns_data.proofs.fields.UnitFields.parse_fields.Goals as goal

pub returns-in_err-finish-clause-refused : goal.returns-in_err-finish-clause-refused
returns-in_err-finish-clause-refused c =
    let p = err_from_is_err_and c.from_residual.result c.from_residual.ensures.1 in
    rw (p.1, p.2) (λ other. left_over c.in_err-finish.ensures.refused)

pub returns-in_err-finish-clause-early : goal.returns-in_err-finish-clause-early
returns-in_err-finish-clause-early c =
    let p = err_from_is_err_and c.from_residual.result c.from_residual.ensures.1 in
    let surplus = c.in_err-finish.ensures.refused in
    rw (p.1, p.2) (nothing_parsed _ _ (Some _) (λ memory. absurd (cc (memory, surplus.1))))

pub returns-clause-early : goal.returns-clause-early
returns-clause-early c = nothing_parsed _ _ None (λ memory. absurd (cc memory))
