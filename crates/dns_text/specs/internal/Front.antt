-- The code's `Front` and `Run` as those of the definitions.
use Rattle.std.specs.Prelude.{ℕ, ◌+◌, ◌<◌}
use Rattle.dns_text.specs.Front as text
use Rattle.dns_text.specs.declared.front.Front.{Front}
use Rattle.dns_text.specs.declared.front.Front.TheVariants.{TextEnd, LineEnd, Gap, Comment, Open, Close, Quoted, Word, Unclosed, Broken}
use Rattle.dns_text.specs.declared.front.Run.{Run}
use Rattle.dns_text.specs.declared.front.Run.TheVariants.{Bare, InQuotes, OverLines}

-- the code's `Front` as that of the definitions
abbrev pub front_of : Front → text.Front
front_of TextEnd = text.TextEnd
front_of (LineEnd n) = text.LineEnd n
front_of Gap = text.Gap
front_of (Comment n) = text.Comment n
front_of Open = text.Open
front_of Close = text.Close
front_of (Quoted n) = text.Quoted n
front_of (Word n) = text.Word n
front_of Unclosed = text.Unclosed
front_of Broken = text.Broken

-- the code's `Run` as that of the definitions
abbrev pub run_of : Run → text.Run
run_of Bare = text.Bare
run_of InQuotes = text.InQuotes
run_of OverLines = text.OverLines

-- how many characters the item takes
abbrev pub front_len : Front → ℕ
front_len TextEnd = 0
front_len (LineEnd n) = n
front_len Gap = 1
front_len (Comment n) = n
front_len Open = 1
front_len Close = 1
front_len (Quoted n) = n + 2
front_len (Word n) = n
front_len Unclosed = 0
front_len Broken = 0

-- the end of a line and a comment have at least one character
abbrev pub HasSome : Front → Type 0
HasSome (LineEnd n) = 0 < n
HasSome (Comment n) = 0 < n
HasSome _ = Unit {0}
