-- What the text of a zone file begins with (RFC 1035 section 5.1).
use Rattle.std.specs.Prelude.{ℕ, ◌+◌, ◌==◌, ◌&&◌, ◌||◌, not, if◌then◌else◌, Bool, true, false, List, [], ◌∷◌, take, drop, Option, Some, None}
use Rattle.std.specs.Str.{bytes_eq}
use Rattle.dns_text.specs.declared.quotes.Quotes.{Quotes}
use Rattle.dns_text.specs.declared.quotes.Quotes.TheVariants.{OneLine, ManyLines}

-- ---- lines

-- whether a text begins with a line feed
abbrev pub begins_with_feed : List ℕ → Bool
begins_with_feed [] = false
begins_with_feed (c ∷ cs) = c == 10

-- the length of the line ending at the start of a text: a line feed, or a carriage return and a line feed
abbrev pub line_end : List ℕ → ℕ
line_end [] = 0
line_end (c ∷ cs) = if c == 10 then 1 else if c == 13 && begins_with_feed cs then 2 else 0

-- the place of the end of the line, counting from `place`
abbrev pub line_from : ℕ → List ℕ → ℕ
line_from place [] = place
line_from place (c ∷ cs) = if line_end (c ∷ cs) == 0 then line_from (place + 1) cs else place

-- ---- words and quoted strings

-- blanks are space and tab
abbrev pub is_blank : ℕ → Bool
is_blank c = c == 32 || c == 9

-- a run of characters: a word outside quotes, or a string between quotes on one line or over several lines
pub data Run : Type 0 where
  Bare : Run
  InQuotes : Run
  OverLines : Run

-- the run that a quoted string is
abbrev pub string_run : Quotes → Run
string_run OneLine = InQuotes
string_run ManyLines = OverLines

-- what ends a word, and what ends a quoted string
abbrev pub stops : Run → ℕ → Bool
stops Bare c = is_blank c || c == 59 || c == 34 || c == 40 || c == 41
stops InQuotes c = c == 34
stops OverLines c = c == 34

-- whether a run ends with its line at the latest
abbrev pub is_on_line : Run → Bool
is_on_line Bare = true
is_on_line InQuotes = true
is_on_line OverLines = false

-- whether a run ends at the start of a text: at its end, at the end of a line, or at an unescaped character that stops it
abbrev pub ends_run : Run → Bool → List ℕ → Bool
ends_run r is_escaped [] = true
ends_run r is_escaped (c ∷ cs) = (is_on_line r && not (line_end (c ∷ cs) == 0)) || (not is_escaped && stops r c)

-- The place of the end of a run, counting from `place`, given whether its first character is escaped. A backslash escapes
-- the next character; a run has no end if its last backslash has nothing to escape.
abbrev pub run_from : Run → Bool → ℕ → List ℕ → Option ℕ
run_from r is_escaped place [] = if is_escaped then None else Some place
run_from r is_escaped place (c ∷ cs) =
    if ends_run r is_escaped (c ∷ cs) then (if is_escaped then None else Some place)
    else run_from r (not is_escaped && c == 92) (place + 1) cs

-- What a text begins with: its end, the end of a line, a blank, a comment, a parenthesis, a quoted string, a word, a quoted
-- string that does not end, or not on its line, or a run whose last backslash has nothing to escape. Lengths are in characters,
-- those of quoted strings without the quotes.
pub data Front : Type 0 where
  TextEnd : Front
  LineEnd : ℕ → Front
  Gap : Front
  Comment : ℕ → Front
  Open : Front
  Close : Front
  Quoted : ℕ → Front
  Word : ℕ → Front
  Unclosed : Front
  Broken : Front

-- a quoted string must end
abbrev pub quoted : Option ℕ → List ℕ → Front
quoted None text = Broken
quoted (Some n) text = if bytes_eq (take 1 (drop n text)) (34 ∷ []) then Quoted n else Unclosed

-- a word of this length, unless its last backslash has nothing to escape
abbrev pub word : Option ℕ → Front
word None = Broken
word (Some n) = Word n

-- what a text begins with
abbrev pub front : Quotes → List ℕ → Front
front quotes [] = TextEnd
front quotes (c ∷ cs) =
    if not (line_end (c ∷ cs) == 0) then LineEnd (line_end (c ∷ cs))
    else if is_blank c then Gap
    else if c == 59 then Comment (line_from 0 cs + 1)
    else if c == 40 then Open
    else if c == 41 then Close
    else if c == 34 then quoted (run_from (string_run quotes) false 0 cs) cs
    else word (run_from Bare false 0 (c ∷ cs))
