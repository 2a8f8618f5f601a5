use Rattle.std.proofs.Common.{None, Err, refl, ap}
use Rattle.std.proofs.lemmas.Result.{err_from_is_err_and}
use Rattle.dns_data.specs.Field.{Seconds}
use Rattle.dns_data.proofs.MissingLaws.{no_memory_refused, missing_refused, missing_taken}
use Rattle.dns_data.proofs.fields.TimeField.parse_field.Goals as goal

pub returns-in_err-seconds-clause-fixed : goal.returns-in_err-seconds-clause-fixed
returns-in_err-seconds-clause-fixed c =
    let p = err_from_is_err_and c.from_residual.result c.from_residual.ensures.1 in
    rw (p.1, p.2) (λ fixed. no_memory_refused None Seconds c.args.tokens.now _ refl (c.in_err-seconds.ensures.refused None))

pub returns-in_err-seconds-clause-missing : goal.returns-in_err-seconds-clause-missing
returns-in_err-seconds-clause-missing c =
    let p = err_from_is_err_and c.from_residual.result c.from_residual.ensures.1 in
    rw (p.1, p.2) (λ none. ap Err (missing_refused None Seconds c.args.tokens.now _ (c.in_err-seconds.ensures.refused None) none))

pub returns-clause-missing : goal.returns-clause-missing
returns-clause-missing c = λ none. absurd (missing_taken None Seconds c.args.tokens.now c.in_ok-seconds.field-0 _ (c.in_ok-seconds.ensures.ok None) none)
