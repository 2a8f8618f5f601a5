-- The faults of the entries of a zone file.
use Rattle.std.specs.Prelude.{◌==◌, ◌&&◌, nat_lt, not, if◌then◌else◌, ℕ, Bool, true, false, List, option_copied, string_bytes, Option, Some, None, option_map}
use Rattle.std.specs.Option.{option_map_or}
use Rattle.dns_wire.specs.codes.DNSClass.{class_number}
use Rattle.dns_names.specs.Compare.{at_or_below, same_labels}
use Rattle.dns_names.specs.Name.{DomainName}
use Rattle.dns_data.specs.rdata.{whole_len}
use Rattle.dns_zone.specs.declared.zone.ZoneFault.{ZoneFault}
use Rattle.dns_zone.specs.declared.zone.ZoneFault.TheVariants as fault
use Rattle.dns_zone_file.specs.Error.{line_of}
use Rattle.dns_zone_file.specs.declared.types.Types.{Types}
use Rattle.zone_check.specs.Apex.{has_start, is_doubled, is_start_record}
use Rattle.zone_check.specs.Mark.{has_mark}
use Rattle.zone_check.specs.declared.fault.ZoneStart.{ZoneStart}
use Rattle.zone_check.specs.findings.FaultText.{advice_on, fault_sentences}
use Rattle.zone_check.specs.findings.Finding.{Said, Sentences}
use Rattle.zone_check.specs.findings.WarningText.{warning_sentences}
use Rattle.zone_check.specs.declared.findings.finding.Severity.TheVariants as severity
use Rattle.zone_lines.specs.Source.{FileText}
use Rattle.zone_lines.specs.declared.record_line.EntryLine.{EntryLine}
use Rattle.zone_lines.specs.declared.record_line.EntryLine.TheVariants as entry
use Rattle.zone_lines.specs.declared.record_line.FaultLine.{FaultLine}
use Rattle.zone_lines.specs.declared.record_line.RecordLine.{RecordLine}
use Rattle.zone_lines.specs.declared.warnings.kind.WarningKind.TheVariants as about

-- ---- what decides on the records of a file

-- the origin, if it is known, whether it has an SOA record, whether the text begins with a byte-order mark, and which types the
-- file may have
pub record Start : Type 0 where
  pub apex : Option DomainName
  pub has_start : Bool
  pub has_mark : Bool
  pub types : Types

-- what the code has of these
abbrev pub start_view : ZoneStart → Start
start_view s = record { apex = option_copied s.apex; has_start = s.has_start; has_mark = s.has_mark; types = s.types }

-- what decides on the records of a file with these entries
abbrev pub zone_of : FileText → Option DomainName → List EntryLine → Start
zone_of file apex entries = record {
  apex = apex;
  has_start = option_map_or (λ name. has_start name entries) apex false;
  has_mark = has_mark file.text;
  types = file.types;
}

-- ---- records that a zone cannot have

-- whether an owner is not at or below the origin, if that is known
abbrev pub lies_outside : Start → RecordLine → Bool
lies_outside z r = option_map_or (λ apex. not (at_or_below apex.labels r.owner.labels)) z.apex false

-- whether a record is an SOA record of another owner than the origin, if that is known
abbrev pub starts_elsewhere : Start → RecordLine → Bool
starts_elsewhere z r = option_map_or (λ apex. is_start_record r && not (same_labels apex.labels r.owner.labels)) z.apex false

-- such a record is one too many, or else the one that the origin lacks
abbrev pub start_fault : Bool → ZoneFault
start_fault true = fault.SoaElsewhere
start_fault false = fault.NoSoa

-- why a zone cannot have a record: its class, its owner, an SOA elsewhere, or data that cannot be encoded
abbrev pub record_fault : Start → RecordLine → Option ZoneFault
record_fault z r =
    if not (class_number r.dns_class == 1) then Some fault.NotInternet
    else (if lies_outside z r then Some fault.OutsideOrigin
    else (if starts_elsewhere z r then Some (start_fault z.has_start)
    else (if nat_lt 65535 (whole_len r.rdata) then Some fault.DataTooLong else None)))

-- whether the owner of a record is the origin twice
abbrev pub lacks_dot : Start → RecordLine → Bool
lacks_dot z r = option_map_or (λ apex. is_doubled apex r.owner) z.apex false

-- the sentences of a record that a zone cannot have: the owner of an SOA record may lack the dot at its end
abbrev pub record_advice : Start → RecordLine → ZoneFault → Sentences
record_advice z r refusal =
    if is_start_record r && lacks_dot z r then warning_sentences about.MissingDot else fault_sentences z.types refusal

-- ---- what is said

-- what is said of a fault on a line of a text, or of one that has none
abbrev pub fault_said : ℕ → Option ℕ → Option (List ℕ) → Sentences → Said
fault_said source line word advice =
    record { source = source; line = line; severity = severity.Fault; word = word; advice = advice }

-- what is said of a record that a zone cannot have
abbrev pub record_said : Start → RecordLine → Option Said
record_said z r =
    option_map (λ refusal. fault_said r.at.source (Some r.at.line) None (record_advice z r refusal)) (record_fault z r)

-- the sentences of an entry that could not be read, with the word at fault, if it is known
abbrev pub entry_advice : Start → FaultLine → Sentences
entry_advice z f = advice_on z.types f.error (option_map string_bytes f.word) f.record_type

-- what is said of an entry that could not be read
abbrev pub fault_line_said : Start → FaultLine → Said
fault_line_said z f = fault_said f.source (line_of f.error) (option_map string_bytes f.word) (entry_advice z f)

-- what is said of an entry: of its fault, if it has one
abbrev pub entry_said : Start → EntryLine → Option Said
entry_said z (entry.Record r) = record_said z r
entry_said z (entry.Fault f) = Some (fault_line_said z f)
