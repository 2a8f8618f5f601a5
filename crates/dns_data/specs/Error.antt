-- Errors of parsing record data.
use Rattle.dns_names.specs.declared.error.ParseError.{ParseError}
use Rattle.dns_names.specs.declared.error.ParseError.TheVariants as names
use Rattle.dns_data.specs.declared.error.RDataParseError.{RDataParseError}
use Rattle.dns_data.specs.declared.error.RDataParseError.TheVariants.{Name, Memory}

-- the error of parsing a name, as an error of parsing record data
abbrev pub name_error : ParseError → RDataParseError
name_error names.Memory = Memory
name_error error = Name error
