-- The tokens of a text, up to a fault.
use Rattle.std.specs.Prelude.{List, ℕ, Some, Ok, Err}
use Rattle.dns_text.specs.Lexer.{Lexeme, LexerState, NextToken, start}
use Rattle.dns_text.specs.Tokens.{LexesTo}
use Rattle.dns_text.specs.declared.error.LexerError.{LexerError}

-- some tokens from a state on, and then a fault
pub data FailsToLex : LexerState → LexerError → Type 0 where
  at_once : {p end : LexerState} {error : LexerError} → NextToken p (Err error) end → FailsToLex p error
  after_token : {p next : LexerState} {token : Lexeme} {error : LexerError} → NextToken p (Ok (Some token)) next
      → FailsToLex next error → FailsToLex p error

-- these are all tokens of a text
abbrev pub AreTokensOf : List ℕ → List Lexeme → Type 0
AreTokensOf text tokens = (end : LexerState) × LexesTo (start text) tokens end

-- a text cannot be lexed
abbrev pub HasNoTokens : List ℕ → Type 0
HasNoTokens text = (error : LexerError) × FailsToLex (start text) error
