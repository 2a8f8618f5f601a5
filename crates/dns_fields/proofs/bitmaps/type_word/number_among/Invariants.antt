use Rattle.std.proofs.Common.{◌≡◌, drop, map}
use Rattle.dns_fields.specs.bitmaps.TypeWord.{number_among}
use Rattle.dns_fields.proofs.bitmaps.type_word.number_among.Given as goal

-- the words up to here are others
abbrev pub invariant-loop-word : goal.invariant-loop-word
invariant-loop-word l =
    number_among (map (λ line. (line.0.now, line.1)) (drop l.word-index l.words)) l.text ≡ number_among (map (λ line. (line.0.now, line.1)) l.words) l.text
