use Rattle.std.proofs.Common.{◌≡◌, false, [], drop, map}
use Rattle.update_text.proofs.WordsGrammarLaws.{in_front, scan}
use Rattle.update_text.proofs.words.split_words.Given as goal

-- the complete words come before those of the rest
abbrev pub invariant-loop-i : goal.invariant-loop-i
invariant-loop-i l =
    scan false false [] l.text ≡ in_front (map (λ word. word.items) l.words.items) (scan l.escaped l.quoted l.word.items (drop l.i l.text))
