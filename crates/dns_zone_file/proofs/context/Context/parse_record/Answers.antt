use Rattle.std.proofs.lemmas.Result.{err_from_is_err_and}
use Rattle.dns_zone_file.proofs.ContextLaws.{record_read, record_fault, owner_fault}
use Rattle.dns_zone_file.proofs.context.Context.parse_record.Goals as goal

pub returns-in_err-owner-clause-refused : goal.returns-in_err-owner-clause-refused
returns-in_err-owner-clause-refused c =
    let p = err_from_is_err_and c.from_residual.result c.from_residual.ensures.1 in
    rw (p.1, p.2) (owner_fault c.args.self.now c.args.tokens.now c.in_err-owner.field-0.0 c.in_err-owner.ensures.refused)

pub returns-in_err-behind-clause-refused : goal.returns-in_err-behind-clause-refused
returns-in_err-behind-clause-refused c =
    let p = err_from_is_err_and c.from_residual-in_err-behind.result c.from_residual-in_err-behind.ensures.1 in
    rw (p.1, p.2) (record_fault c.args.self.now c.args.tokens.now c.in_ok-owner.owner c.in_err-behind.field-0.0 c.in_ok-owner.ensures.ok c.in_err-behind.ensures.refused)

pub returns-clause-ok : goal.returns-clause-ok
returns-clause-ok c =
    record_read c.args.self.now c.args.tokens.now c.in_ok-owner.owner c.in_ok-behind.behind c.in_ok-owner.ensures.ok c.in_ok-behind.ensures.ok
