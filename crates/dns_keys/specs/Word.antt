-- Words and symbols.
use Rattle.std.specs.Prelude.{ℕ, ◌+◌, ◌==◌, ◌||◌, if◌then◌else◌, Bool, List, [], ◌∷◌, take, drop, Option, Some, None}
use Rattle.std.specs.List.{list_any, position, position_or_len}
use Rattle.dns_keys.specs.Blanks.{is_blank}
use Rattle.dns_keys.specs.WordParts.{WordParts}

-- the quotation mark
abbrev pub is_quote : ℕ → Bool
is_quote c = c == 34

-- a word without quotation marks ends before a blank, a symbol or a quotation mark
abbrev pub is_end : ℕ → Bool
is_end c = is_blank c || c == 123 || c == 125 || c == 59 || is_quote c

-- whether a text has a line feed
abbrev pub has_line_feed : List ℕ → Bool
has_line_feed = list_any (λ c. c == 10)

-- the word before the next quotation mark, which is on the same line
abbrev pub quoted_word : List ℕ → Option WordParts
quoted_word text =
    elim (position is_quote text) [
      | None ↦ None
      | Some len ↦ if has_line_feed (take len text) then None else Some (record { text = take len text; rest = drop (len + 1) text })
    ]

-- the octets up to the end of a word, at least one
abbrev pub plain_word : List ℕ → Option WordParts
plain_word text =
    let len = position_or_len is_end text in
    if len == 0 then None else Some (record { text = take len text; rest = drop len text })

-- the word at the front of a text
abbrev pub word_at : List ℕ → Option WordParts
word_at [] = None
word_at (c ∷ cs) = if is_quote c then quoted_word cs else plain_word (c ∷ cs)

-- the text after a symbol at its front
abbrev pub after_symbol : ℕ → List ℕ → Option (List ℕ)
after_symbol symbol [] = None
after_symbol symbol (c ∷ cs) = if c == symbol then Some cs else None
