-- The words of a line, and the words after its semicolon (RFC 1035 section 5.1).
use Rattle.std.specs.Prelude.{◌≡◌, ◌≢◌, ◌==◌, ◌||◌, Bool, true, false, List, [], ◌∷◌, ◌++◌, ℕ, map, Option, Some, None}
use Rattle.std.specs.Global.{Vec}

-- words as lists of octets
abbrev pub texts : List (Vec ℕ) → List (List ℕ)
texts = map (λ word. word.items)

-- blanks are space and tab
abbrev pub is_blank : ℕ → Bool
is_blank c = c == 32 || c == 9

-- a run of characters: a word outside quotes, or a string between quotes
pub data Run : Type 0 where
  Bare : Run
  InQuotes : Run

-- what ends a word, and what ends a quoted string
abbrev pub stops : Run → ℕ → Bool
stops Bare c = is_blank c || (c == 34 || c == 59)
stops InQuotes c = c == 34

-- A text, a run at its start, and the rest. A backslash escapes the next character, which then does not stop the run; both
-- belong to the run.
pub data RunGoesTo : Run → List ℕ → List ℕ → List ℕ → Type 0 where
  no_further : {r : Run} {rest : List ℕ} → RunGoesTo r rest [] rest
  unescaped : {r : Run} {c : ℕ} {text run rest : List ℕ} → stops r c ≡ false → c ≢ 92 → RunGoesTo r text run rest
      → RunGoesTo r (c ∷ text) (c ∷ run) rest
  escaped : {r : Run} {c : ℕ} {text run rest : List ℕ} → RunGoesTo r text run rest → RunGoesTo r (92 ∷ c ∷ text) (92 ∷ c ∷ run) rest

-- a word is over at the end of the text, and at a character that stops it
pub data IsWordOver : List ℕ → Type 0 where
  by_end : IsWordOver []
  by_stop : {c : ℕ} {rest : List ℕ} → stops Bare c ≡ true → IsWordOver (c ∷ rest)

-- A text, the words at its start, and the rest. Blanks separate words; a quoted string is a word with its quotes, and needs
-- no blank beside it. Other words have at least one character.
pub data WordsGoTo : List ℕ → List (List ℕ) → List ℕ → Type 0 where
  no_word : {rest : List ℕ} → WordsGoTo rest [] rest
  past_blank : {c : ℕ} {text rest : List ℕ} {words : List (List ℕ)} → is_blank c ≡ true → WordsGoTo text words rest
      → WordsGoTo (c ∷ text) words rest
  past_word : {c : ℕ} {text run next rest : List ℕ} {words : List (List ℕ)} → RunGoesTo Bare text (c ∷ run) next → IsWordOver next
      → WordsGoTo next words rest → WordsGoTo text ((c ∷ run) ∷ words) rest
  past_string : {text string next rest : List ℕ} {words : List (List ℕ)} → RunGoesTo InQuotes text string (34 ∷ next)
      → WordsGoTo next words rest → WordsGoTo (34 ∷ text) ((34 ∷ string ++ 34 ∷ []) ∷ words) rest

-- the words of a text that has nothing else, or none if it has
abbrev pub AreWords : List ℕ → Option (List (List ℕ)) → Type 0
AreWords text (Some words) = WordsGoTo text words []
AreWords text None = ¬ ((words : List (List ℕ)) × WordsGoTo text words [])

-- A line consists of words. A semicolon, neither quoted nor escaped, may follow, and more words after it.
pub data IsLine : List ℕ → List (List ℕ) → List (List ℕ) → Type 0 where
  words_alone : {text : List ℕ} {words : List (List ℕ)} → WordsGoTo text words [] → IsLine text words []
  with_more : {text after : List ℕ} {words more : List (List ℕ)} → WordsGoTo text words (59 ∷ after) → WordsGoTo after more []
      → IsLine text words more

-- the words of a line before and after its semicolon, or none if the text is no line of words
abbrev pub AreLineWords : List ℕ → Option (List (List ℕ) × List (List ℕ)) → Type 0
AreLineWords text (Some line) = IsLine text line.0 line.1
AreLineWords text None = ¬ ((words : List (List ℕ)) × (more : List (List ℕ)) × IsLine text words more)
