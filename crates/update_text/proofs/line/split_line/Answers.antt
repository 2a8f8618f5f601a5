use Rattle.std.proofs.Common.{◌≡◌, [], length, arith, List, ℕ, Option, Some, None, Vec, Global, map, option_map, subst}
use Rattle.std.proofs.lemmas.List.{nil_from_length}
use Rattle.update_text.specs.Words.{AreWords, no_word, words_alone}
use Rattle.update_text.specs.internal.Words.{IsSplit}
use Rattle.update_text.proofs.LineLaws.{line_with, no_line, no_line_with}
use Rattle.update_text.proofs.line.split_line.Goals as goal

-- the words that a function returned
abbrev texts : Option (Vec (Vec ℕ Global) Global) → Option (List (List ℕ))
texts found = option_map (λ words. map (λ word. word.items) words.items) found

pub returns-then-is_empty-clause-words : goal.returns-then-is_empty-clause-words
returns-then-is_empty-clause-words c =
    let none : length c.args.text.now ≡ 0 = search (arith, c.is_empty.ensures) in
    let empty : c.args.text.now ≡ [] = nil_from_length c.args.text.now none in
    rw (c.no_words.ensures.words, c.no_words.ensures.more, empty) (words_alone no_word)

pub returns-in_default-clause-words : goal.returns-in_default-clause-words
returns-in_default-clause-words c =
    let none : IsSplit c.args.text.now None = subst (IsSplit c.args.text.now) c.in_default.is c.in_ok-words.ensures in
    no_line c.args.text.now none

pub returns-in-Some-2-clause-words : goal.returns-in-Some-2-clause-words
returns-in-Some-2-clause-words c =
    let after = c.after_semicolon.result.now in
    let split : IsSplit c.args.text.now (Some c.in-Some.field-0) = subst (IsSplit c.args.text.now) c.in-Some.is c.in_ok-words.ensures in
    let are : AreWords after (texts (Some c.in-Some-2.more)) =
    subst (λ (found : Option (Vec (Vec ℕ Global) Global)). AreWords after (texts found)) c.in-Some-2.is c.in_ok-more.ensures in
    line_with c.args.text.now after c.in-Some.field-0 (map (λ word. word.items) c.in-Some-2.more.items) split c.after_semicolon.ensures are

pub returns-in-None-clause-words : goal.returns-in-None-clause-words
returns-in-None-clause-words c =
    let after = c.after_semicolon.result.now in
    let split : IsSplit c.args.text.now (Some c.in-Some.field-0) = subst (IsSplit c.args.text.now) c.in-Some.is c.in_ok-words.ensures in
    let none : AreWords after (texts None) =
    subst (λ (found : Option (Vec (Vec ℕ Global) Global)). AreWords after (texts found)) c.in-None.is c.in_ok-more.ensures in
    no_line_with c.args.text.now after c.in-Some.field-0 split c.after_semicolon.ensures none
