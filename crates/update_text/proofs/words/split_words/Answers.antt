use Rattle.std.proofs.Common.{◌≡◌, ◌||◌, true, false, Some, sym, ◌∙◌, map, drop, length, [], arith, refl}
use Rattle.update_text.proofs.LineLaws.{scan_ends, scan_fails, scan_goes_on, scan_is_over, words_to}
use Rattle.update_text.proofs.WordsGrammarLaws.{front_of_none, scan}
use Rattle.update_text.proofs.words.split_words.Goals as goal
use Rattle.update_text.proofs.words.split_words.Goals.{then-escaped-via-then-escaped, then-escaped-via-else-escaped+then-quoted}

pub loop-i-init : goal.loop-i-init
loop-i-init c =
    rw (c.new-words.ensures.items, c.new-word.ensures.items) (sym (front_of_none (scan false false [] c.args.text.now)))

pub returns-then-ends_words : goal.returns-then-ends_words
returns-then-ends_words c =
    let text = c.args.text.now in
    let words = map (λ word. word.items) c.end_word.new.done.items in
    let is : scan false false [] text ≡ Some (words, drop c.loop-i.i text) =
    rw c.in_ok-end_word.ensures.done (scan_ends text c.loop-i.i c.loop-i.escaped c.loop-i.quoted c.loop-i.word.items
    (map (λ word. word.items) c.loop-i.words.items) c.loop-i-test.true (sym c.ends_words.ensures ∙ c.if-ends_words.true) c.loop-i.invariant) in
    (omega arith, words_to text words c.loop-i.i is)

pub loop-i-preserved : goal.loop-i-preserved
loop-i-preserved c =
    scan_goes_on c.args.text.now c.loop-i.i c.loop-i.escaped c.loop-i.quoted c.is_escape-escaped.result c.is_quoted-quoted.result
    c.loop-i.word.items c.take_character.new.word.items (map (λ word. word.items) c.loop-i.words.items)
    (map (λ word. word.items) c.take_character.new.done.items) c.role_of-role.result c.loop-i-test.true
    (sym c.ends_words.ensures ∙ c.if-ends_words.false) c.role_of-role.ensures c.in_ok-take_character.ensures.done c.in_ok-take_character.ensures.word
    c.is_quoted-quoted.ensures c.is_escape-escaped.ensures c.loop-i.invariant

pub returns-then-escaped : goal.returns-then-escaped
returns-then-escaped c =
    let fails : (c.loop-i.escaped || c.loop-i.quoted) ≡ true =
    elim c.then-escaped.branch [
      | then-escaped-via-then-escaped w ↦ rw w.if-escaped.true refl
      | then-escaped-via-else-escaped+then-quoted w ↦ rw (w.if-escaped.false, w.if-quoted.true) refl
    ] in
    scan_fails c.args.text.now c.loop-i.i c.loop-i.escaped c.loop-i.quoted c.loop-i.word.items (map (λ word. word.items) c.loop-i.words.items)
    c.loop-i-test.false fails c.loop-i.invariant

pub returns : goal.returns
returns c =
    let text = c.args.text.now in
    let words = map (λ word. word.items) c.end_word-2.new.done.items in
    let is : scan false false [] text ≡ Some (words, drop (length text) text) =
    rw c.in_ok-end_word-2.ensures.done (scan_is_over text c.loop-i.i c.loop-i.escaped c.loop-i.quoted c.loop-i.word.items
    (map (λ word. word.items) c.loop-i.words.items) c.loop-i-test.false c.if-escaped.false c.if-quoted.false c.loop-i.invariant) in
    (omega arith, words_to text words (length text) is)
