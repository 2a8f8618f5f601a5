-- Why tokens are refused.
use Rattle.std.specs.Prelude.{ℕ}
use Rattle.dns_names.specs.declared.error.ParseError.{ParseError}
use Rattle.dns_names.specs.declared.error.ParseError.TheVariants as names
use Rattle.dns_formats.specs.declared.fault.TokenFault.{TokenFault}
use Rattle.dns_formats.specs.declared.fault.TokenFault.TheVariants.{LabelTooLong, EmptyLabel, NameTooLong, InvalidName, Memory}
use Rattle.dns_formats.specs.declared.fault.FormatFault.{FormatFault}
use Rattle.dns_formats.specs.declared.fault.FormatFault.TheVariants as format

-- the error of parsing a name, as a fault of its token
abbrev pub name_fault : ParseError → TokenFault
name_fault names.LabelBytesTooLong = LabelTooLong
name_fault names.EmptyLabel = EmptyLabel
name_fault names.DomainNameTooLong = NameTooLong
name_fault (names.Text place) = InvalidName place
name_fault names.Memory = Memory

-- the fault of a token, with the number of the token
abbrev pub fault_at : ℕ → TokenFault → FormatFault
fault_at token Memory = format.Memory
fault_at token fault = format.InvalidToken token fault
