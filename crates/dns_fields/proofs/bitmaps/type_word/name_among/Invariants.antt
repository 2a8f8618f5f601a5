use Rattle.std.proofs.Common.{◌≡◌, drop, map}
use Rattle.dns_fields.specs.bitmaps.TypeWord.{name_among}
use Rattle.dns_fields.proofs.bitmaps.type_word.name_among.Given as goal

-- the numbers up to here are others
abbrev pub invariant-loop-word : goal.invariant-loop-word
invariant-loop-word l =
    name_among (map (λ line. (line.0.now, line.1)) (drop l.word-index l.words)) l.number ≡ name_among (map (λ line. (line.0.now, line.1)) l.words) l.number
