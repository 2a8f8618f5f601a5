use Rattle.std.proofs.Common.{refl, sym, ap, ◌∙◌}
use Rattle.std.specs.Prelude.{unwrap_or}
use Rattle.std.proofs.lemmas.Result.{err_from_is_err_and}
use Rattle.dns_zone_file.specs.internal.Context.{bad_fields}
use Rattle.dns_zone_file.proofs.ContextLaws.{data_read, data_fault, no_ttl_left}
use Rattle.dns_zone_file.proofs.context.Context.parse_data.Goals as goal

pub returns-in_err-fields-clause-refused : goal.returns-in_err-fields-clause-refused
returns-in_err-fields-clause-refused c =
    let p = err_from_is_err_and c.from_residual.result c.from_residual.ensures.1 in
    rw (p.1, p.2) (bad_fields c.in_err-fields.ensures.refused)

pub returns-in_err-rdata-clause-refused : goal.returns-in_err-rdata-clause-refused
returns-in_err-rdata-clause-refused c =
    let p = err_from_is_err_and c.from_residual-in_err-rdata.result c.from_residual-in_err-rdata.ensures.1 in
    rw (p.1, p.2) (data_fault c.args.self.now c.args.tokens.now c.in_ok-fields.fields c.in_err-rdata.field-0.0 c.in_ok-fields.ensures.ok c.in_err-rdata.ensures.refused)

pub returns-in-Some-clause-ok : goal.returns-in-Some-clause-ok
returns-in-Some-clause-ok c =
    data_read c.args.self.now c.args.tokens.now c.in_ok-fields.fields _ c.in_ok-fields.ensures.ok c.in_ok-rdata.ensures.parsed refl
    (sym c.in-Some.ensures) (sym (c.unwrap_or.ensures ∙ ap (unwrap_or c.in_ok-fields.fields.dns_class) c.default_class.ensures))

pub returns-in-None-clause-refused : goal.returns-in-None-clause-refused
returns-in-None-clause-refused c =
    no_ttl_left c.args.self.now c.args.tokens.now c.in_ok-fields.fields c.in_ok-rdata.rdata c.in_ok-fields.ensures.ok c.in_ok-rdata.ensures.parsed
    (sym c.in-None.ensures)
