-- Errors of entries, with or without their line.
use Rattle.std.specs.Prelude.{ℕ}
use Rattle.dns_zone_file.specs.declared.error.EntryFault.{EntryFault}
use Rattle.dns_zone_file.specs.declared.error.EntryError.{EntryError}
use Rattle.dns_zone_file.specs.declared.error.EntryError.TheVariants as of
use Rattle.dns_zone_file.specs.declared.error.ZoneFileError.{ZoneFileError}
use Rattle.dns_zone_file.specs.declared.error.ZoneFileError.TheVariants.{Entry, Memory}

-- the error of an entry on a line
abbrev pub at_line : ℕ → EntryError → ZoneFileError
at_line line (of.Fault refusal) = Entry line refusal
at_line line of.Memory = Memory

-- the error is a fault with this property, or says that memory was refused
abbrev pub IsFault : (EntryFault → Type 0) → EntryError → Type 0
IsFault P (of.Fault refusal) = P refusal
IsFault P of.Memory = Unit {0}
