use Rattle.std.proofs.Common.{refl, subst, sym}
use Rattle.std.proofs.lemmas.Result.{IfOk-weaker}
use Rattle.dns_text.specs.declared.error.LexerError.{LexerError}
use Rattle.dns_zone_file.specs.internal.Parsing.{includes_view}
use Rattle.zone_lines.specs.internal.Reading.{TakesStep}
use Rattle.zone_lines.specs.declared.reading.Step.TheVariants as step
use Rattle.zone_lines.proofs.ReadingLaws.{step_taken}
use Rattle.zone_lines.proofs.reading.take_step.Goals as goal

pub returns-in-Ok-None : goal.returns-in-Ok-None
returns-in-Ok-None c = let none = rw c.in-Ok-None.field-0-is at c.in-Ok-None.ensures.end in (none refl, refl)

pub returns-in-Err-Lexer : goal.returns-in-Err-Lexer
returns-in-Err-Lexer c =
    let refused = rw c.in-Err-Lexer.field-0-is at c.in-Err-Lexer.ensures.refused in
    subst (λ (e : LexerError).
    TakesStep (includes_view c.args.includes.now) c.args.depth c.args.section.source c.args.section.base c.args.is_closed c.args.lexer.now c.args.context.now
    c.next_entry.new.lexer c.args.context.now (step.Breaks c.entry_line-entry.result e)) (sym c.in-Err-Lexer.error-is)
    (refused (λ e. let no : ⊥ = cc in no), c.entry_line-entry.ensures, refl)

pub returns : goal.returns
returns c =
    let lexed = rw c.in-Ok-Some.field-0-is at c.in-Ok-Some.ensures.entry in
    let shorter = rw c.in-Ok-Some.field-0-is at c.in-Ok-Some.ensures.shorter in
    IfOk-weaker c.take_entry.result _ _
    (λ s h. step_taken (includes_view c.args.includes.now) c.args.depth c.args.section.source c.args.section.base c.args.is_closed c.args.lexer.now
    c.next_entry.new.lexer c.args.context.now c.take_entry.new.context s c.in-Ok-Some.tokens.items c.as_slice.result.now c.in_ok-add_lines.field-0
    c.entry_line-entry.result lexed shorter c.as_slice.ensures.value c.entry_line-entry.ensures c.in_ok-add_lines.ensures h)
    c.take_entry.ensures
