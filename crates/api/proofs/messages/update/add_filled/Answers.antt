use Rattle.std.proofs.lemmas.Result.{err_from_is_err_and}
use Rattle.api.proofs.UpdateLaws.{unadded}
use Rattle.api.proofs.messages.update.add_filled.Goals as goal

pub returns-in_err-rdata-clause-refused : goal.returns-in_err-rdata-clause-refused
returns-in_err-rdata-clause-refused c =
    let p = err_from_is_err_and c.from_residual-in_err-rdata.result c.from_residual-in_err-rdata.ensures.1 in
    rw (p.1, p.2) (unadded c.args.update.now.zone c.zone.result.now c.args.name.now c.in_ok-name.name c.args.record_type c.args.text.now c.in_err-rdata.field-0.0 c.zone.ensures c.in_ok-name.ensures
    c.in_err-rdata.ensures.refused)
