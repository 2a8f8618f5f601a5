use Rattle.std.proofs.Common.{Some, None, subst}
use Rattle.update_text.specs.internal.Words.{IsSplit}
use Rattle.update_text.proofs.LineLaws.{are_no_words, no_words_alone}
use Rattle.update_text.proofs.words.words_alone.Goals as goal

pub returns-then-end-text : goal.returns-then-end-text
returns-then-end-text c =
    let split : IsSplit c.args.text.now (Some c.in-Some.field-0) = subst (IsSplit c.args.text.now) c.in-Some.is c.in_ok-words.ensures in
    no_words_alone c.args.text.now c.in-Some.field-0 split c.if-end-text.true

pub returns-in-None : goal.returns-in-None
returns-in-None c =
    let none : IsSplit c.args.text.now None = subst (IsSplit c.args.text.now) c.in-None.is c.in_ok-words.ensures in
    are_no_words c.args.text.now none
