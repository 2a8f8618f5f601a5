-- The lines of faults in zone files.
use Rattle.std.specs.Prelude.{ℕ, Option, Some, None}
use Rattle.dns_text.specs.Error as lexer
use Rattle.dns_zone_file.specs.declared.error.ZoneFileError.{ZoneFileError}
use Rattle.dns_zone_file.specs.declared.error.ZoneFileError.TheVariants.{Lexer, Entry, IncludeNotFound, Memory}

-- the line of a fault; want of memory has none
abbrev pub line_of : ZoneFileError → Option ℕ
line_of (Lexer error) = Some (lexer.line_of error)
line_of (Entry line refusal) = Some line
line_of (IncludeNotFound line) = Some line
line_of Memory = None
