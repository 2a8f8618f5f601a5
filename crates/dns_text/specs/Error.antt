-- The line of a lexical error.
use Rattle.std.specs.Prelude.{ℕ}
use Rattle.dns_text.specs.declared.error.LexerError.{LexerError}
use Rattle.dns_text.specs.declared.error.LexerError.TheVariants.{UnclosedQuotedString, UnclosedList, NestedList, UnopenedList, LoneBackslash}

-- the line of a lexical error, counted from 1
abbrev pub line_of : LexerError → ℕ
line_of (UnclosedQuotedString line) = line
line_of (UnclosedList line) = line
line_of (NestedList line) = line
line_of (UnopenedList line) = line
line_of (LoneBackslash line) = line
