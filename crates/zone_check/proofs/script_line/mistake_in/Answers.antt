use Rattle.std.proofs.Common.{List, ℕ, Bor, Option, sym, subst}
use Rattle.std.specs.Prelude.{IfSome}
use Rattle.zone_check.specs.ScriptLine.{IsWordOf}
use Rattle.zone_check.proofs.ScriptLaws.{word_got, word_of_part}
use Rattle.zone_check.proofs.script_line.mistake_in.Goals as goal

pub returns-in-Some-clause-word : goal.returns-in-Some-clause-word
returns-in-Some-clause-word c =
    subst (λ (o : Option (Bor (List ℕ))). IfSome o (λ w. IsWordOf c.args.line.now w.now)) (sym c.form_mistake.ensures.word)
    (word_of_part c.args.line.now c.split_link.result.0.now _ c.split_link.ensures.event
    (word_got c.split_link.result.0.now c.in_ok-words.words.items c.deref.result.now c.in_ok-fit.fit.count c.in-Some.word.now c.in_ok-words.ensures
    c.deref.ensures.value c.in-Some.ensures.lookup.3.0 c.in-Some.ensures.lookup.1))

pub returns-in-Some-2-clause-word : goal.returns-in-Some-2-clause-word
returns-in-Some-2-clause-word c =
    let found = rw c.in-Some-2.is at c.in_ok-word-in-None-2.ensures in
    subst (λ (o : Option (Bor (List ℕ))). IfSome o (λ w. IsWordOf c.args.line.now w.now)) (sym c.link_mistake.ensures.word)
    (word_of_part c.args.line.now c.split_link.result.1.now _ c.split_link.ensures.link found)
