-- The tokens of a text one after another, and texts that consist of given tokens (RFC 1035 section 5.1).
use Rattle.std.specs.Prelude.{◌≡◌, ◌≢◌, ◌<◌, ℕ, true, false, List, [], ◌∷◌, ◌++◌, length, Some, None, Ok}
use Rattle.dns_text.specs.Front.{Run, Bare, InQuotes, stops}
use Rattle.dns_text.specs.Lexer.{Lexeme, CharData, QuotedString, word_token, LexerState, NextToken}

-- the tokens from a state to the end of the text, with the state there
pub data LexesTo : LexerState → List Lexeme → LexerState → Type 0 where
  no_token : {p end : LexerState} → NextToken p (Ok None) end → LexesTo p [] end
  one_token : {p next end : LexerState} {token : Lexeme} {tokens : List Lexeme} → NextToken p (Ok (Some token)) next
      → LexesTo next tokens end → LexesTo p (token ∷ tokens) end

-- a run: characters that do not stop it, and pairs of a backslash and a character, none of which can end a line
pub data IsRun : Run → List ℕ → Type 0 where
  no_character : {r : Run} → IsRun r []
  one_character : {r : Run} {c : ℕ} {run : List ℕ} → c ≢ 10 → c ≢ 13 → stops r c ≡ false → c ≢ 92 → IsRun r run
      → IsRun r (c ∷ run)
  one_escape : {r : Run} {c : ℕ} {run : List ℕ} → c ≢ 10 → c ≢ 13 → IsRun r run → IsRun r (92 ∷ c ∷ run)

-- what the data of an entry consists of: a word that is neither `@` nor a directive, or a quoted string
abbrev pub IsDatum : Lexeme → Type 0
IsDatum (CharData word) = (0 < length word) × IsRun Bare word × (word_token true word ≡ CharData word)
IsDatum (QuotedString string) = IsRun InQuotes string
IsDatum _ = ⊥

-- the text of a datum: a word as it is, and a string between quotes
abbrev pub datum_text : Lexeme → List ℕ
datum_text (CharData word) = word
datum_text (QuotedString string) = 34 ∷ string ++ 34 ∷ []
datum_text _ = []

-- their texts, with a blank between each two
abbrev pub data_text : List Lexeme → List ℕ
data_text [] = []
data_text (datum ∷ []) = datum_text datum
data_text (datum ∷ next ∷ more) = datum_text datum ++ 32 ∷ data_text (next ∷ more)
