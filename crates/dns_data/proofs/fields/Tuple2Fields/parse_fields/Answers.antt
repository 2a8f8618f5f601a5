use Rattle.std.proofs.Common.{None, refl}
use Rattle.std.proofs.lemmas.Result.{err_from_is_err_and}
use Rattle.dns_data.specs.Text.{refused_token, past_token}
use Rattle.dns_data.proofs.EarlyLaws.{one_error, no_error, parse_stops, parse_goes_on}
use Rattle.dns_data.proofs.fields.Tuple2Fields.parse_fields.Goals as goal

pub returns-in_err-field-clause-refused : goal.returns-in_err-field-clause-refused
returns-in_err-field-clause-refused g c =
    let p = err_from_is_err_and c.from_residual.result c.from_residual.ensures.1 in
    rw (p.1, p.2) (λ other. refused_token (c.in_err-field.ensures.refused other))

pub returns-in_err-rest-clause-refused : goal.returns-in_err-rest-clause-refused
returns-in_err-rest-clause-refused g c =
    let p = err_from_is_err_and c.from_residual-in_err-rest.result c.from_residual-in_err-rest.ensures.1 in
    rw (p.1, p.2) (λ other. past_token {rest = c.parse_field.new.tokens} (g.F.Field.value c.in_ok-field.field) c.in_ok-field.ensures.ok (c.in_err-rest.ensures.refused other))

pub returns-in_err-field-clause-early : goal.returns-in_err-field-clause-early
returns-in_err-field-clause-early g c =
    let p = err_from_is_err_and c.from_residual.result c.from_residual.ensures.1 in
    rw (p.1, p.2) (parse_stops _ g.F.Field.kind g.R.Fields.kinds _ _ c.in_err-field.ensures.fixed (λ none. one_error _ _ refl (c.in_err-field.ensures.missing none)) c.in_err-field.ensures.refused)

pub returns-in_err-rest-clause-early : goal.returns-in_err-rest-clause-early
returns-in_err-rest-clause-early g c =
    let p = err_from_is_err_and c.from_residual-in_err-rest.result c.from_residual-in_err-rest.ensures.1 in
    rw (p.1, p.2) (parse_goes_on _ g.F.Field.kind g.R.Fields.kinds _ _ (g.F.Field.value c.in_ok-field.field) c.in_ok-field.ensures.ok (λ none. no_error _ _ (c.in_ok-field.ensures.missing none)) _ c.in_err-rest.ensures.early)

pub returns-clause-early : goal.returns-clause-early
returns-clause-early g c =
    parse_goes_on _ g.F.Field.kind g.R.Fields.kinds _ _ (g.F.Field.value c.in_ok-field.field) c.in_ok-field.ensures.ok (λ none. no_error _ _ (c.in_ok-field.ensures.missing none)) None c.in_ok-rest.ensures.early
