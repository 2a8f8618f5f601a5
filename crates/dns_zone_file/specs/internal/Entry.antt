-- Entries, as the code divides them.
use Rattle.std.specs.Prelude.{map}
use Rattle.dns_text.specs.Token.{lexeme}
use Rattle.dns_zone_file.specs.Entry as text
use Rattle.dns_zone_file.specs.declared.entry.Entry.{Entry}
use Rattle.dns_zone_file.specs.declared.entry.Entry.TheVariants.{Nothing, Origin, Ttl, Include, Record}
use Rattle.dns_zone_file.specs.declared.entry.Inclusion.{Inclusion}
use Rattle.dns_zone_file.specs.declared.error.ZoneFileError.{ZoneFileError}
use Rattle.dns_zone_file.specs.declared.error.ZoneFileError.TheVariants as error
use Rattle.dns_text.specs.Lexer.{LexerState}

-- an entry with its arguments as lexemes
abbrev pub entry_view : Entry → text.Entry
entry_view Nothing = text.nothing
entry_view (Origin arguments) = text.origin_directive (map lexeme arguments.now)
entry_view (Ttl arguments) = text.ttl_directive (map lexeme arguments.now)
entry_view (Include arguments) = text.include_directive (map lexeme arguments.now)
entry_view Record = text.record_entry

-- a text to include with its name as bytes
abbrev pub inclusion_view : Inclusion → text.Inclusion
inclusion_view i = record { name = i.name.now; origin = i.origin }

-- the error is a fault of the text from a state on
abbrev pub IsTextFault : LexerState → ZoneFileError → Type 0
IsTextFault p (error.Lexer fault) = text.RefusesTokens p fault
IsTextFault p other = ⊥
