use Rattle.std.proofs.Common.{refl}
use Rattle.std.proofs.lemmas.Result.{err_from_is_err_and}
use Rattle.dns_zone_file.proofs.StepLaws.{text_fault, entry_fault, end_reached, entry_applied}
use Rattle.dns_zone_file.proofs.parser.take_step.Goals as goal

pub returns-in_err-tokens-clause-refused : goal.returns-in_err-tokens-clause-refused
returns-in_err-tokens-clause-refused c =
    let p = err_from_is_err_and c.from_residual.result c.from_residual.ensures.1 in
    rw (p.1, p.2) (λ other. text_fault c.args.lexer.now c.args.context.now c.in_err-tokens.field-0.0 (c.in_err-tokens.ensures.refused other))

pub returns-in-None-clause-ok : goal.returns-in-None-clause-ok
returns-in-None-clause-ok c =
    let end = rw c.in-None.is at c.in_ok-tokens.ensures.end in
    end_reached c.args.lexer.now c.next_entry.new.lexer c.args.context.now c.args.context.now (end refl) refl

pub returns-in-Ok-None-clause-ok : goal.returns-in-Ok-None-clause-ok
returns-in-Ok-None-clause-ok c =
    let lexed = rw c.in-Some.is at c.in_ok-tokens.ensures.entry in
    let shorter = rw c.in-Some.is at c.in_ok-tokens.ensures.shorter in
    let applied = rw c.in-Ok-None.field-0-is at c.in-Ok-None.ensures.applied in
    (entry_applied c.args.lexer.now c.next_entry.new.lexer c.args.context.now c.apply.new.self c.in-Some.tokens.items c.as_slice.result.now c.as_slice.ensures.value lexed (applied refl), shorter)

pub returns-clause-refused : goal.returns-clause-refused
returns-clause-refused c =
    let lexed = rw c.in-Some.is at c.in_ok-tokens.ensures.entry in
    rw c.at_line.ensures (λ some.
    entry_fault c.args.lexer.now c.next_entry.new.lexer c.args.context.now c.in-Some.tokens.items c.as_slice.result.now c.entry_line-line.result c.in-Err.error c.as_slice.ensures.value lexed c.entry_line-line.ensures c.in-Err.ensures.refused some)
