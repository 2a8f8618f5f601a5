-- Tokens that are read one after another.
use Rattle.std.proofs.Common.{◌≡◌, List, [], ◌∷◌, ◌++◌, map, sym, subst, ap, ◌∙◌, append_assoc, append-nil, Ok, Err, Some, None}
use Rattle.std.proofs.lemmas.List.{map-append}
use Rattle.dns_text.specs.Lexer.{Lexeme, LexerState, NextToken}
use Rattle.dns_text.specs.Token.{lexeme}
use Rattle.dns_text.specs.Tokens.{LexesTo, no_token, one_token}
use Rattle.dns_text.specs.declared.error.LexerError.{LexerError}
use Rattle.dns_text.specs.declared.token.Token.{Token}
use Rattle.api.specs.messages.Tokens.{FailsToLex, at_once, after_token}

-- the tokens from a state to another
pub data Reads (p : LexerState) : List Lexeme → LexerState → Type 0 where
  nothing : Reads p [] p
  one_more : {q next : LexerState} {token : Lexeme} {tokens : List Lexeme} → Reads p tokens q → NextToken q (Ok (Some token)) next
      → Reads p (tokens ++ token ∷ []) next

-- tokens that follow are those of the whole
followed : {p q end : LexerState} {tokens more : List Lexeme} → Reads p tokens q → LexesTo q more end → LexesTo p (tokens ++ more) end
followed nothing rest = rest
followed {p} {end = end} {more = more} (one_more {token = token} {tokens = tokens} reads next) rest =
    subst (λ (l : List Lexeme). LexesTo p l end) (sym (append_assoc tokens (token ∷ []) more)) (followed reads (one_token next rest))

-- no more tokens
pub all_read : {p q end : LexerState} {tokens : List Lexeme} → Reads p tokens q → NextToken q (Ok None) end → LexesTo p tokens end
all_read {p} {end = end} {tokens = tokens} reads last = subst (λ (l : List Lexeme). LexesTo p l end) (append-nil tokens) (followed reads (no_token last))

-- a fault that follows is one of the whole
fails : {p q : LexerState} {tokens : List Lexeme} {error : LexerError} → Reads p tokens q → FailsToLex q error → FailsToLex p error
fails nothing fault = fault
fails (one_more reads next) fault = fails reads (after_token next fault)

pub then_fails : {p q end : LexerState} {tokens : List Lexeme} {error : LexerError} → Reads p tokens q → NextToken q (Err error) end → FailsToLex p error
then_fails reads fault = fails reads (at_once fault)

-- one more token of the code
pub pushed : {p q next : LexerState} (tokens more : List Token) (token : Token) → Reads p (map lexeme tokens) q
    → NextToken q (Ok (Some (lexeme token))) next → more ≡ tokens ++ token ∷ [] → Reads p (map lexeme more) next
pushed {p} {next = next} tokens more token reads found is =
    subst (λ (l : List Lexeme). Reads p l next) (sym (ap (map lexeme) is ∙ map-append lexeme tokens (token ∷ []))) (one_more reads found)
