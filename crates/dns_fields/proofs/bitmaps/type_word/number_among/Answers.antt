use Rattle.std.proofs.Common.{sym, ◌∙◌}
use Rattle.dns_fields.proofs.BitmapsWordLaws.{word_further, word_found}
use Rattle.dns_fields.proofs.bitmaps.type_word.number_among.Goals as goal

pub returns-then-is_same_word : goal.returns-then-is_same_word
returns-then-is_same_word c =
    word_found c.args.words.now c.loop-word.word-index _ c.args.text.now _ _ c.loop-word-test.true c.as_bytes.ensures.value (sym c.is_same_word.ensures ∙ c.if-is_same_word.true) c.loop-word.invariant

pub loop-word-preserved : goal.loop-word-preserved
loop-word-preserved c =
    word_further c.args.words.now c.loop-word.word-index _ c.args.text.now _ _ c.loop-word-test.true c.as_bytes.ensures.value (sym c.is_same_word.ensures ∙ c.if-is_same_word.false) c.loop-word.invariant
