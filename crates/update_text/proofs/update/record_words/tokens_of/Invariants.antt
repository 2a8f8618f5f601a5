use Rattle.std.proofs.Common.{◌≡◌, map, take}
use Rattle.dns_text.specs.Token.{lexeme}
use Rattle.update_text.specs.Update.{word_lexeme}
use Rattle.update_text.specs.Words.{texts}
use Rattle.update_text.proofs.update.record_words.tokens_of.Given as goal

-- the tokens of the words so far
abbrev pub invariant-loop-word : goal.invariant-loop-word
invariant-loop-word l =
    map lexeme l.tokens.items ≡ map word_lexeme (texts (take l.word-index l.words))
