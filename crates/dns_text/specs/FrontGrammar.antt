-- The grammar of what the text of a zone file begins with (RFC 1035 section 5.1).
use Rattle.std.specs.Prelude.{◌≡◌, ℕ, ◌+◌, ◌≢◌, true, false, List, [], ◌∷◌, take, drop}
use Rattle.dns_text.specs.declared.quotes.Quotes.{Quotes}
use Rattle.dns_text.specs.Front.{Run, Bare, InQuotes, OverLines, string_run, is_blank, stops, Front}
use Rattle.dns_text.specs.Front as by_len

-- A line ends at a line feed, or at a carriage return and a line feed. The rest begins the next line.
pub data EndsLine : List ℕ → List ℕ → Type 0 where
  feed : {rest : List ℕ} → EndsLine (10 ∷ rest) rest
  return_and_feed : {rest : List ℕ} → EndsLine (13 ∷ 10 ∷ rest) rest

-- nothing more is on the line
pub data IsLineOver : List ℕ → Type 0 where
  by_text_end : IsLineOver []
  by_line_end : {text rest : List ℕ} → EndsLine text rest → IsLineOver text

-- the rest of a text after its first line
pub data LineGoesTo : List ℕ → List ℕ → Type 0 where
  line_over : {rest : List ℕ} → IsLineOver rest → LineGoesTo rest rest
  on_line : {c : ℕ} {text rest : List ℕ} → ¬ IsLineOver (c ∷ text) → LineGoesTo text rest → LineGoesTo (c ∷ text) rest

-- a run can go no further: its line is over, or the text where the run may go over several lines
abbrev pub IsCut : Run → List ℕ → Type 0
IsCut Bare text = IsLineOver text
IsCut InQuotes text = IsLineOver text
IsCut OverLines text = text ≡ []

-- A text, a run at its start, and the rest. A backslash escapes the next character that the run can have, which then does
-- not stop the run; both belong to the run.
pub data RunGoesTo : Run → List ℕ → List ℕ → List ℕ → Type 0 where
  no_further : {r : Run} {rest : List ℕ} → RunGoesTo r rest [] rest
  unescaped : {r : Run} {c : ℕ} {text run rest : List ℕ} → ¬ IsCut r (c ∷ text) → stops r c ≡ false → c ≢ 92
      → RunGoesTo r text run rest → RunGoesTo r (c ∷ text) (c ∷ run) rest
  escaped : {r : Run} {c : ℕ} {text run rest : List ℕ} → ¬ IsCut r (c ∷ text)
      → RunGoesTo r text run rest → RunGoesTo r (92 ∷ c ∷ text) (92 ∷ c ∷ run) rest

-- a run is over where it can go no further, and at a character that stops it
pub data IsRunOver : Run → List ℕ → Type 0 where
  by_cut : {r : Run} {rest : List ℕ} → IsCut r rest → IsRunOver r rest
  by_stop : {r : Run} {c : ℕ} {rest : List ℕ} → stops r c ≡ true → IsRunOver r (c ∷ rest)

-- What a text begins with, and the rest after it. A quoted string comes without its quotes.
pub data FrontItem : Type 0 where
  TextEnd : FrontItem
  LineEnd : List ℕ → FrontItem
  Gap : List ℕ → FrontItem
  Comment : List ℕ → FrontItem
  Open : List ℕ → FrontItem
  Close : List ℕ → FrontItem
  Quoted : List ℕ → List ℕ → FrontItem
  Word : List ℕ → List ℕ → FrontItem
  Unclosed : FrontItem
  Broken : FrontItem

-- what a text begins with: its end, the end of a line, a blank, a comment, a parenthesis, a string, a word, or a fault
pub data IsInFront (quotes : Quotes) : List ℕ → FrontItem → Type 0 where
  text_end : IsInFront quotes [] TextEnd
  line_end : {text rest : List ℕ} → EndsLine text rest → IsInFront quotes text (LineEnd rest)
  gap : {c : ℕ} {rest : List ℕ} → is_blank c ≡ true → IsInFront quotes (c ∷ rest) (Gap rest)
  -- a comment leaves the end of its line, which may end an entry
  comment : {text rest : List ℕ} → LineGoesTo text rest → IsInFront quotes (59 ∷ text) (Comment rest)
  opening : {rest : List ℕ} → IsInFront quotes (40 ∷ rest) (Open rest)
  closing : {rest : List ℕ} → IsInFront quotes (41 ∷ rest) (Close rest)
  quoted_string : {text string rest : List ℕ} → RunGoesTo (string_run quotes) text string (34 ∷ rest)
      → IsInFront quotes (34 ∷ text) (Quoted string rest)
  -- a word has at least one character
  word : {c : ℕ} {text run rest : List ℕ} → RunGoesTo Bare text (c ∷ run) rest → IsRunOver Bare rest
      → IsInFront quotes text (Word (c ∷ run) rest)
  -- the line, or the text, is over before a quoted string is closed
  unclosed : {text string rest : List ℕ} → RunGoesTo (string_run quotes) text string rest → IsCut (string_run quotes) rest
      → IsInFront quotes (34 ∷ text) Unclosed
  -- the line, or the text, is over right after a backslash, which has nothing to escape
  broken_string : {text string rest : List ℕ} → RunGoesTo (string_run quotes) text string (92 ∷ rest)
      → IsCut (string_run quotes) rest → IsInFront quotes (34 ∷ text) Broken
  broken_word : {text run rest : List ℕ} → RunGoesTo Bare text run (92 ∷ rest) → IsLineOver rest
      → IsInFront quotes text Broken

-- the item of a text that `front` finds, with the rest of the text
abbrev pub front_item : Front → List ℕ → FrontItem
front_item by_len.TextEnd text = TextEnd
front_item (by_len.LineEnd n) text = LineEnd (drop n text)
front_item by_len.Gap text = Gap (drop 1 text)
front_item (by_len.Comment n) text = Comment (drop n text)
front_item by_len.Open text = Open (drop 1 text)
front_item by_len.Close text = Close (drop 1 text)
front_item (by_len.Quoted n) text = Quoted (take n (drop 1 text)) (drop (n + 2) text)
front_item (by_len.Word n) text = Word (take n text) (drop n text)
front_item by_len.Unclosed text = Unclosed
front_item by_len.Broken text = Broken
