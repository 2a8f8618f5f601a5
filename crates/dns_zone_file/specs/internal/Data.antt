-- Faults of data, as the code divides them.
use Rattle.dns_formats.specs.declared.fault.FormatFault.{FormatFault}
use Rattle.dns_zone_file.specs.declared.error.EntryFault.{EntryFault}
use Rattle.dns_zone_file.specs.declared.error.EntryFault.TheVariants as fault

-- the fault is one of a format with this property
abbrev pub IsFormatFault : (FormatFault → Type 0) → EntryFault → Type 0
IsFormatFault P (fault.InvalidFormat error) = P error
IsFormatFault P other = ⊥
