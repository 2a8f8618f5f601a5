-- The directive `$GENERATE`, as the code has it.
use Rattle.std.specs.Prelude.{List, Err}
use Rattle.dns_text.specs.Lexer.{Lexeme, LexerState}
use Rattle.dns_zone_file.specs.Entry.{LexesEntry}
use Rattle.dns_zone_file.specs.Generate as text
use Rattle.dns_zone_file.specs.declared.context.Context.{Context}
use Rattle.dns_zone_file.specs.declared.error.EntryFault.{EntryFault}
use Rattle.dns_zone_file.specs.declared.generate.Generation.{Generation}

-- a directive with its template as bytes
abbrev pub generation_view : Generation → text.Generation
generation_view g = record { numbers = g.numbers; template = g.template.items }

-- the tokens of a text's first entry
pub record LexesFirst (p : LexerState) (tokens : List Lexeme) : Type 0 where
  pub next : LexerState
  pub lexed : LexesEntry p tokens next

-- a text whose first entry has this fault in every context
abbrev pub RefusesFirst : LexerState → EntryFault → Type 0
RefusesFirst p refusal = (c : Context) → text.AddsFirst c p (Err refusal)
