-- Lines of resolv.conf(5): a keyword at the start, white space, and values that white space separates.
use Rattle.std.specs.Prelude.{◌==◌, ◌||◌, not, if◌then◌else◌, Bool, List, ℕ, length, Option, Some, None, codes}
use Rattle.std.specs.List.{after_first, before_first, filter, slice_split}
use Rattle.std.specs.Str.{bytes_eq, is_utf8}
use Rattle.stub_servers.specs.declared.resolv_conf.line.Keyword.{Keyword}
use Rattle.stub_servers.specs.declared.resolv_conf.line.Keyword.TheVariants.{NameServer, Domain, Search, Options}

-- the lines of a text, which line feeds separate
abbrev pub lines_of : List ℕ → List (List ℕ)
lines_of text = slice_split (λ c. c == 10) text

-- white space is a space or a tab
abbrev pub is_blank : ℕ → Bool
is_blank c = c == 32 || c == 9

-- whether what is between white space is a word: it is not empty
abbrev pub is_word : List ℕ → Bool
is_word text = not (length text == 0)

-- the words of a text, which white space separates
abbrev pub words_of : List ℕ → List (List ℕ)
words_of text = filter is_word (slice_split is_blank text)

-- the keyword that a word is
abbrev pub keyword_in : List ℕ → Option Keyword
keyword_in word =
    if bytes_eq word (codes "nameserver") then Some NameServer
    else if bytes_eq word (codes "domain") then Some Domain
    else if bytes_eq word (codes "search") then Some Search
    else if bytes_eq word (codes "options") then Some Options
    else None

-- the keyword of a line, which the first white space ends; a line that is not UTF-8 has none
abbrev pub keyword_of : List ℕ → Option Keyword
keyword_of line = if is_utf8 line then keyword_in (before_first is_blank line) else None

-- the values of a line: the words after the first white space
abbrev pub values_of : List ℕ → List (List ℕ)
values_of line = words_of (after_first is_blank line)
