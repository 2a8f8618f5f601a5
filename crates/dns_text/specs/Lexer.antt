-- The tokens of a zone file (RFC 1035 section 5.1).
use Rattle.std.specs.Prelude.{◌≡◌, ◌==◌, ℕ, ◌+◌, not, if◌then◌else◌, Bool, true, false, List, take, drop, count_by, codes, Option, Some, None, Result, Ok, Err}
use Rattle.std.specs.Str.{bytes_eq}
use Rattle.dns_text.specs.declared.error.LexerError.{LexerError}
use Rattle.dns_text.specs.declared.error.LexerError.TheVariants as fault
use Rattle.dns_text.specs.declared.quotes.Quotes.{Quotes}
use Rattle.dns_text.specs.declared.quotes.Quotes.TheVariants.{OneLine}
use Rattle.dns_text.specs.Front.{Front, TextEnd, LineEnd, Gap, Comment, Open, Close, Quoted, Word, Unclosed, Broken, front}

-- blanks at the start of an entry, a word or a quoted string with its escapes, `@`, a directive at the start of an entry,
-- or the end of an entry
pub data Lexeme : Type 0 where
  Blank : Lexeme
  CharData : List ℕ → Lexeme
  QuotedString : List ℕ → Lexeme
  At : Lexeme
  Include : Lexeme
  Origin : Lexeme
  Ttl : Lexeme
  EOL : Lexeme

-- the token of a word: `@`, a directive at the start of an entry, or the word itself (RFC 1035 section 5.1)
abbrev pub word_token : Bool → List ℕ → Lexeme
word_token is_front text =
    if bytes_eq text (codes "@") then At
    else if not is_front then CharData text
    else if bytes_eq text (codes "$INCLUDE") then Include
    else if bytes_eq text (codes "$ORIGIN") then Origin
    else if bytes_eq text (codes "$TTL") then Ttl
    else CharData text

-- the state of lexing: the rest of the text, its line, the first line of the entry, whether a parenthesis is open,
-- whether the lexer is at the start of an entry, and how far a quoted string may go
pub record LexerState : Type 0 where
  pub text : List ℕ
  pub line : ℕ
  pub entry : ℕ
  pub is_open : Bool
  pub is_front : Bool
  pub quotes : Quotes

-- the state at the start of a text
abbrev pub start_with : Quotes → List ℕ → LexerState
start_with quotes text = record { text = text; line = 1; entry = 1; is_open = false; is_front = true; quotes = quotes }

-- the state at the start of a text whose quoted strings end on their lines
abbrev pub start : List ℕ → LexerState
start text = start_with OneLine text

-- the state after `n` characters of an entry
abbrev pub past : ℕ → LexerState → LexerState
past n p = record p { text = drop n p.text; is_front = false }

-- the state after a quoted string of `n` characters, which may have line feeds
abbrev pub past_string : ℕ → LexerState → LexerState
past_string n p = record (past (n + 2) p) { line = p.line + count_by (λ c. c == 10) (take n (drop 1 p.text)) }

-- the outcome of scanning one item: no token, a token, the end, or a fault
pub data Step : Type 0 where
  Skips : LexerState → Step
  Yields : Lexeme → LexerState → Step
  Ends : Step
  Refuses : LexerError → Step

-- an entry continues after the end of a line while a parenthesis is open, and parentheses do not nest
abbrev pub step_past : Front → LexerState → Step
step_past TextEnd p = if p.is_open then Refuses (fault.UnclosedList p.entry) else Ends
step_past (LineEnd n) p =
    if p.is_open then Skips (record p { text = drop n p.text; line = p.line + 1 })
    else Yields EOL (record p {
      text = drop n p.text;
      line = p.line + 1;
      entry = p.line + 1;
      is_open = false;
      is_front = true;
    })
step_past Gap p = if p.is_front then Yields Blank (past 1 p) else Skips (past 1 p)
step_past (Comment n) p = Skips (record p { text = drop n p.text })
step_past Open p = if p.is_open then Refuses (fault.NestedList p.line) else Skips (record (past 1 p) { is_open = true })
step_past Close p = if p.is_open then Skips (record (past 1 p) { is_open = false }) else Refuses (fault.UnopenedList p.line)
step_past (Quoted n) p = Yields (QuotedString (take n (drop 1 p.text))) (past_string n p)
step_past (Word n) p = Yields (word_token p.is_front (take n p.text)) (past n p)
step_past Unclosed p = Refuses (fault.UnclosedQuotedString p.line)
step_past Broken p = Refuses (fault.LoneBackslash p.line)

-- the outcome of scanning the item that the text of a state begins with
abbrev pub step : LexerState → Step
step p = step_past (front p.quotes p.text) p

-- The next token from a state on, or none at the end of the text, or the first fault, with the state after it. The end and
-- a fault leave the state as it is.
pub data NextToken : LexerState → Result (Option Lexeme) LexerError → LexerState → Type 0 where
  past_nothing : {p next end : LexerState} {found : Result (Option Lexeme) LexerError} → step p ≡ Skips next
      → NextToken next found end → NextToken p found end
  at_token : {p next : LexerState} {token : Lexeme} → step p ≡ Yields token next → NextToken p (Ok (Some token)) next
  at_end : {p : LexerState} → step p ≡ Ends → NextToken p (Ok None) p
  at_fault : {p : LexerState} {error : LexerError} → step p ≡ Refuses error → NextToken p (Err error) p
