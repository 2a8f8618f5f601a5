use Rattle.std.proofs.Common.{None, Err, refl, ap}
use Rattle.std.proofs.lemmas.Result.{err_from_is_err_and}
use Rattle.dns_data.specs.Field.{Address4}
use Rattle.dns_data.proofs.MissingLaws.{no_memory_refused, missing_refused, missing_taken}
use Rattle.dns_data.proofs.fields.Ipv4AddrField.parse_field.Goals as goal

pub returns-in_err-address-clause-fixed : goal.returns-in_err-address-clause-fixed
returns-in_err-address-clause-fixed c =
    let p = err_from_is_err_and c.from_residual.result c.from_residual.ensures.1 in
    rw (p.1, p.2) (λ fixed. no_memory_refused None Address4 c.args.tokens.now _ refl (c.in_err-address.ensures.refused None))

pub returns-in_err-address-clause-missing : goal.returns-in_err-address-clause-missing
returns-in_err-address-clause-missing c =
    let p = err_from_is_err_and c.from_residual.result c.from_residual.ensures.1 in
    rw (p.1, p.2) (λ none. ap Err (missing_refused None Address4 c.args.tokens.now _ (c.in_err-address.ensures.refused None) none))

pub returns-clause-missing : goal.returns-clause-missing
returns-clause-missing c = λ none. absurd (missing_taken None Address4 c.args.tokens.now c.in_ok-address.address _ (c.in_ok-address.ensures.ok None) none)
