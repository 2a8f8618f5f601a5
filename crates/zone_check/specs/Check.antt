-- The zone, the origin and the warnings of a zone file, the last two also of one with faults.
use Rattle.std.specs.Prelude.{ℕ, Bool, true, false, List, [], is_some, Option, Some, None, Result, Ok, Err}
use Rattle.dns_names.specs.Name.{DomainName}
use Rattle.dns_zone.specs.Load.{ReadsZoneIn}
use Rattle.dns_zone.specs.Rows.{ZoneContent}
use Rattle.dns_zone.specs.declared.zone.ZoneFault.{ZoneFault}
use Rattle.dns_zone_file.specs.declared.types.Types.{Types}
use Rattle.dns_zone_file.specs.declared.types.Types.TheVariants.{Nine, All}
use Rattle.zone_check.specs.Apex.{apex_of}
use Rattle.zone_lines.specs.Line.{lines_of_file}
use Rattle.zone_lines.specs.Source.{FileText}
use Rattle.zone_lines.specs.declared.record_line.EntryLine.{EntryLine}
use Rattle.zone_lines.specs.warnings.Warning.{warnings_of}
use Rattle.zone_lines.specs.declared.warnings.kind.Warning.{Warning}

-- the zone of a file, or its first fault by kind
abbrev pub ReadsZoneText : FileText → Option DomainName → Result ZoneContent ZoneFault → Type 0
ReadsZoneText file origin outcome = ReadsZoneIn file.types file.includes origin file.text outcome

-- the origin of a zone, or of the entries of a file that has faults
abbrev pub checked_origin : Result ZoneContent ZoneFault → Option DomainName → List EntryLine → Option DomainName
checked_origin (Ok zone) origin entries = Some zone.origin
checked_origin (Err refusal) origin entries = apex_of origin entries

-- whether a file of some types is served plainly: a server of the nine types expands no wildcard, and follows no delegation
abbrev pub is_plain : Types → Bool
is_plain Nine = true
is_plain All = false

-- the warnings of a file whose origin is known, and was given or not
abbrev pub warnings_if_known : Bool → Option ℕ → FileText → Option DomainName → List EntryLine → List Warning
warnings_if_known is_given now file None entries = []
warnings_if_known is_given now file (Some apex) entries =
    warnings_of (record { origin = apex; is_given = is_given; is_plain = is_plain file.types; now = now; texts = lines_of_file file }) entries

-- the warnings of a file with perhaps an origin that was given
abbrev pub warnings_at_origin : Option DomainName → Option ℕ → FileText → Option DomainName → List EntryLine → List Warning
warnings_at_origin given now file apex entries = warnings_if_known (is_some given) now file apex entries
