use Rattle.std.proofs.Common.{None, Err, refl, ap}
use Rattle.std.proofs.lemmas.Result.{err_from_is_err_and}
use Rattle.dns_data.specs.Field.{Number32}
use Rattle.dns_data.proofs.MissingLaws.{no_memory_refused, missing_refused, missing_taken}
use Rattle.dns_data.proofs.fields.U32Field.parse_field.Goals as goal

pub returns-in_err-number-clause-fixed : goal.returns-in_err-number-clause-fixed
returns-in_err-number-clause-fixed c =
    let p = err_from_is_err_and c.from_residual.result c.from_residual.ensures.1 in
    rw (p.1, p.2) (λ fixed. no_memory_refused None Number32 c.args.tokens.now _ refl (c.in_err-number.ensures.refused None))

pub returns-in_err-number-clause-missing : goal.returns-in_err-number-clause-missing
returns-in_err-number-clause-missing c =
    let p = err_from_is_err_and c.from_residual.result c.from_residual.ensures.1 in
    rw (p.1, p.2) (λ none. ap Err (missing_refused None Number32 c.args.tokens.now _ (c.in_err-number.ensures.refused None) none))

pub returns-clause-missing : goal.returns-clause-missing
returns-clause-missing c = λ none. absurd (missing_taken None Number32 c.args.tokens.now c.in_ok-number.number _ (c.in_ok-number.ensures.ok None) none)
