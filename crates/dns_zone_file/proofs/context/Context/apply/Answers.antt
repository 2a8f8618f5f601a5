use Rattle.std.proofs.Common.{map, sym}
use Rattle.std.proofs.lemmas.Result.{err_from_is_err_and}
use Rattle.dns_text.specs.Token.{lexeme}
use Rattle.dns_zone_file.specs.Parsing.{for_nothing, for_origin, for_ttl, bad_ttl}
use Rattle.dns_zone_file.proofs.ContextLaws.{origin_fault, include_fault}
use Rattle.dns_zone_file.proofs.GenerateLaws.{entry_fault}
use Rattle.dns_zone_file.proofs.context.Context.apply.Goals as goal

pub returns-in_err-origin-in-Origin-clause-refused : goal.returns-in_err-origin-in-Origin-clause-refused
returns-in_err-origin-in-Origin-clause-refused c =
    let p = err_from_is_err_and c.from_residual.result c.from_residual.ensures.1 in
    rw (p.1, p.2) (origin_fault c.args.self.now (map lexeme c.args.tokens.now) (map lexeme c.in-Origin.arguments.now) c.in_err-origin-in-Origin.field-0.0 c.in-Origin.ensures c.in_err-origin-in-Origin.ensures.refused)

pub returns-in_err-ttl-in-Ttl-clause-refused : goal.returns-in_err-ttl-in-Ttl-clause-refused
returns-in_err-ttl-in-Ttl-clause-refused c =
    let p = err_from_is_err_and c.from_residual-in_err-ttl-in-Ttl.result c.from_residual-in_err-ttl-in-Ttl.ensures.1 in
    rw (p.1, p.2) (bad_ttl (sym c.in-Ttl.ensures) (sym c.in_err-ttl-in-Ttl.ensures))

pub returns-in_err-inclusion-in-Include-clause-refused : goal.returns-in_err-inclusion-in-Include-clause-refused
returns-in_err-inclusion-in-Include-clause-refused c =
    let p = err_from_is_err_and c.from_residual-in_err-inclusion-in-Include.result c.from_residual-in_err-inclusion-in-Include.ensures.1 in
    rw (p.1, p.2) (include_fault c.args.self.now (map lexeme c.args.tokens.now) (map lexeme c.in-Include.arguments.now) c.in_err-inclusion-in-Include.field-0.0 c.in-Include.ensures c.in_err-inclusion-in-Include.ensures.refused)

pub returns-in_err-add_records-in-Record-clause-refused : goal.returns-in_err-add_records-in-Record-clause-refused
returns-in_err-add_records-in-Record-clause-refused c =
    let p = err_from_is_err_and c.from_residual-in_err-add_records-in-Record.result c.from_residual-in_err-add_records-in-Record.ensures.1 in
    rw (p.1, p.2) (entry_fault c.args.self.now (map lexeme c.args.tokens.now) c.in_err-add_records-in-Record.field-0.0 c.in-Record.ensures c.in_err-add_records-in-Record.ensures.refused)

pub returns-in-Nothing-clause-applied : goal.returns-in-Nothing-clause-applied
returns-in-Nothing-clause-applied c = λ _. for_nothing (sym c.in-Nothing.ensures)

pub returns-in_ok-origin-in-Origin-clause-applied : goal.returns-in_ok-origin-in-Origin-clause-applied
returns-in_ok-origin-in-Origin-clause-applied c = λ _. for_origin (sym c.in-Origin.ensures) c.in_ok-origin-in-Origin.ensures.ok

pub returns-in_ok-ttl-in-Ttl-clause-applied : goal.returns-in_ok-ttl-in-Ttl-clause-applied
returns-in_ok-ttl-in-Ttl-clause-applied c = λ _. for_ttl (sym c.in-Ttl.ensures) (sym c.in_ok-ttl-in-Ttl.ensures)

pub returns-in_ok-add_records-in-Record-clause-applied : goal.returns-in_ok-add_records-in-Record-clause-applied
returns-in_ok-add_records-in-Record-clause-applied c = λ _. c.in_ok-add_records-in-Record.ensures.ok (sym c.in-Record.ensures)
