use Rattle.std.proofs.Common.{map, length}
use Rattle.dns_text.specs.Token.{lexeme}
use Rattle.api.proofs.TokenLaws.{Reads}
use Rattle.api.proofs.messages.tokens.tokens_of.Given as goal

-- the tokens so far are those from the start of the text to here
abbrev pub invariant-loop-token : goal.invariant-loop-token
invariant-loop-token l = Reads l.initial.lexer (map lexeme l.tokens.items) l.lexer

abbrev pub decreases-loop-token : goal.decreases-loop-token
decreases-loop-token l = length l.lexer.text
