-- How the words of a text are scanned, character by character.
use Rattle.std.specs.Prelude.{◌==◌, ◌≤◌, ◌&&◌, not, if◌then◌else◌, Bool, List, [], ◌∷◌, ◌++◌, ℕ, length, map, drop, Option, Some, None}
use Rattle.update_text.specs.declared.words.FirstWords.{FirstWords}
use Rattle.update_text.specs.declared.words.Role.{Role}
use Rattle.update_text.specs.declared.words.Role.TheVariants.{Blank, OpenQuote, CloseQuote, Text}
use Rattle.update_text.specs.Words.{WordsGoTo, is_blank}

-- whether a backslash escapes the next character: one that is escaped itself does not
abbrev pub is_escape : Bool → ℕ → Bool
is_escape escaped c = not escaped && c == 92

-- whether a quote is open after a character: an unescaped quote opens or closes
abbrev pub is_quoted : Bool → Bool → ℕ → Bool
is_quoted escaped quoted c = if not escaped && c == 34 then not quoted else quoted

-- a semicolon that is neither escaped nor quoted
abbrev pub ends_words : Bool → Bool → ℕ → Bool
ends_words escaped quoted c = not escaped && (not quoted && c == 59)

-- what a character is to the words of its line, given whether it is escaped and whether a quote is open before it
abbrev pub role_of : Bool → Bool → ℕ → Role
role_of escaped quoted c =
    if escaped then Text
    else if c == 34 then (if quoted then CloseQuote else OpenQuote)
    else if not quoted && is_blank c then Blank
    else Text

-- a word, if it has a character
abbrev pub word_if_any : List ℕ → List (List ℕ)
word_if_any [] = []
word_if_any (c ∷ cs) = (c ∷ cs) ∷ []

-- the words that are complete after a character, given the characters of the open word before it
abbrev pub complete_words : Role → List ℕ → ℕ → List (List ℕ)
complete_words Text word c = []
complete_words CloseQuote word c = word_if_any (word ++ c ∷ [])
complete_words role word c = word_if_any word

-- the characters of the open word after a character
abbrev pub open_word : Role → List ℕ → ℕ → List ℕ
open_word Text word c = word ++ c ∷ []
open_word OpenQuote word c = c ∷ []
open_word role word c = []

-- words end at the end of a text, or at a semicolon
pub data IsOver : List ℕ → Type 0 where
  by_text_end : IsOver []
  by_semicolon : {rest : List ℕ} → IsOver (59 ∷ rest)

-- words with the rest after them, at which they end
abbrev pub AreWordsUpTo : List ℕ → List (List ℕ) → List ℕ → Type 0
AreWordsUpTo text words rest = WordsGoTo text words rest × IsOver rest

-- the words of a text, up to its end or a semicolon, or none if it does not begin with words
abbrev pub IsSplit : List ℕ → Option FirstWords → Type 0
IsSplit text (Some found) =
    (found.end ≤ length text) × AreWordsUpTo text (map (λ word. word.items) found.words.items) (drop found.end text)
IsSplit text None = ¬ ((words : List (List ℕ)) × (rest : List ℕ) × AreWordsUpTo text words rest)
