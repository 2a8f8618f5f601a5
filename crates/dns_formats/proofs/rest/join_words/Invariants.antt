use Rattle.std.proofs.Common.{◌≡◌, drop, map}
use Rattle.dns_text.specs.Token.{lexeme}
use Rattle.dns_formats.specs.Rest.{joined}
use Rattle.dns_formats.proofs.ValueLaws.{words_before}
use Rattle.dns_formats.proofs.rest.join_words.Given as goal

-- the words that are left complete the text
abbrev pub invariant-loop-token : goal.invariant-loop-token
invariant-loop-token l = words_before l.words.items (joined (map lexeme (drop l.token-index l.tokens))) ≡ joined (map lexeme l.tokens)
