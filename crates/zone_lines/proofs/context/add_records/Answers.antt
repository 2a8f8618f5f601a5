use Rattle.std.proofs.Common.{map, refl, sym}
use Rattle.std.proofs.lemmas.Result.{err_from_is_err_and}
use Rattle.dns_text.specs.Token.{lexeme}
use Rattle.dns_zone_file.specs.internal.Generate.{generation_view}
use Rattle.zone_lines.proofs.ContextLaws.{directive_fault, directive_is, plain_fault}
use Rattle.zone_lines.proofs.context.add_records.Goals as goal

pub returns-in_err-generation-in-Some-clause-refused : goal.returns-in_err-generation-in-Some-clause-refused
returns-in_err-generation-in-Some-clause-refused c =
    let p = err_from_is_err_and c.from_residual.result c.from_residual.ensures.1 in
    rw (p.1, p.2)
    (directive_fault c.args.context.now _ (map lexeme c.args.tokens.now) (map lexeme c.in-Some.arguments.now) c.in_err-generation-in-Some.field-0.0
    c.in-Some.ensures refl c.in_err-generation-in-Some.ensures.refused)

pub returns-in_ok-add_generated-in-Some-clause-ok : goal.returns-in_ok-add_generated-in-Some-clause-ok
returns-in_ok-add_generated-in-Some-clause-ok c = λ is. record {
  directive = generation_view c.in_ok-generation-in-Some.generation;
  reads =
      directive_is c.args.context.now.types (map lexeme c.args.tokens.now) (map lexeme c.in-Some.arguments.now)
      (generation_view c.in_ok-generation-in-Some.generation) c.in-Some.ensures c.in_ok-generation-in-Some.ensures.ok;
  generates = c.in_ok-add_generated-in-Some.ensures;
}

pub returns-in_err-add_record-in-None-clause-refused : goal.returns-in_err-add_record-in-None-clause-refused
returns-in_err-add_record-in-None-clause-refused c =
    let p = err_from_is_err_and c.from_residual-in_err-add_record-in-None.result c.from_residual-in_err-add_record-in-None.ensures.1 in
    rw (p.1, p.2)
    (plain_fault c.args.context.now _ (map lexeme c.args.tokens.now) c.in_err-add_record-in-None.field-0.0 c.in-None.ensures
    c.in_err-add_record-in-None.ensures.refused)

pub returns-in_ok-add_record-in-None-clause-ok : goal.returns-in_ok-add_record-in-None-clause-ok
returns-in_ok-add_record-in-None-clause-ok c = λ is. (is, sym c.in-None.ensures, c.in_ok-add_record-in-None.ensures.ok)
