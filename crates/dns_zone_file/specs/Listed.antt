-- The names of the texts that a text includes (RFC 1035 section 5.1).
use Rattle.std.specs.Prelude.{◌≡◌, ℕ, List, [], ◌∷◌, Option, Some, None, Ok}
use Rattle.dns_text.specs.Lexer.{Lexeme, LexerState, NextToken}
use Rattle.dns_text.specs.declared.error.LexerError.{LexerError}
use Rattle.dns_zone_file.specs.Entry.{LexesEntry, RefusesTokens, Entry, include_directive, entry_of, text_name}

-- the name that the arguments of `$INCLUDE` begin with
abbrev pub first_name : List Lexeme → Option (List ℕ)
first_name [] = None
first_name (token ∷ tokens) = text_name token

-- the name of the text that an entry includes
abbrev pub name_in : Entry → Option (List ℕ)
name_in (include_directive arguments) = first_name arguments
name_in other = None

-- The names that the entries of a text include, in their order, from a state of the lexer on, up to the end or to the first
-- fault of the text.
pub data ListsNames : LexerState → List (List ℕ) → Type 0 where
  at_end : {p end : LexerState} → NextToken p (Ok None) end → ListsNames p []
  at_fault : {p : LexerState} {error : LexerError} → RefusesTokens p error → ListsNames p []
  past_other : {p next : LexerState} {tokens : List Lexeme} {names : List (List ℕ)} → LexesEntry p tokens next
      → name_in (entry_of tokens) ≡ None → ListsNames next names → ListsNames p names
  past_include : {p next : LexerState} {tokens : List Lexeme} {name : List ℕ} {names : List (List ℕ)} → LexesEntry p tokens next
      → name_in (entry_of tokens) ≡ Some name → ListsNames next names → ListsNames p (name ∷ names)
