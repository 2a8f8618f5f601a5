-- The line about a zone file of which there is nothing to say.
use Rattle.std.specs.Prelude.{ℕ, Bool, true, false, List, [], ◌++◌, codes, count_by, Some, None, Result, Ok}
use Rattle.std.specs.Fmt.{decimal}
use Rattle.dns_data.specs.declared.rdata.RData.{RData}
use Rattle.dns_data.specs.declared.rdata.RData.TheVariants as of
use Rattle.dns_names.specs.Name.{DomainName}
use Rattle.dns_names.specs.Print.{text_of_name}
use Rattle.dns_zone.specs.Rows.{ZoneContent}
use Rattle.dns_zone.specs.declared.zone.ZoneFault.{ZoneFault}
use Rattle.zone_check.specs.Apex.{first_start}
use Rattle.zone_check.specs.declared.check.ZoneCheck.{ZoneCheck}
use Rattle.zone_check.specs.findings.Shown.{shown}
use Rattle.zone_check.specs.declared.findings.format.ReportFormat.TheVariants.{Text}
use Rattle.zone_lines.specs.declared.record_line.EntryLine.{EntryLine}
use Rattle.zone_lines.specs.declared.record_line.EntryLine.TheVariants as entry
use Rattle.zone_lines.specs.declared.record_line.RecordLine.{RecordLine}
use Rattle.zone_lines.specs.declared.warnings.kind.Warning.{Warning}

-- whether an entry is a record
unfoldable pub is_record : EntryLine → Bool
is_record (entry.Record r) = true
is_record (entry.Fault f) = false

-- how many entries are records
abbrev pub count_records : List EntryLine → ℕ
count_records entries = count_by is_record entries

-- the serial number of SOA data
abbrev pub serial_of : RData → ℕ
serial_of (of.SOA soa) = soa.serial
serial_of other = 0

-- `: zone NAME`
abbrev pub zone_part : DomainName → List ℕ
zone_part origin = codes ": zone " ++ text_of_name origin

-- `, N records, serial S`
abbrev pub counts_part : ℕ → ℕ → List ℕ
counts_part count serial = codes ", " ++ decimal count ++ codes " records, serial " ++ decimal serial ++ codes "\n"

-- `FILE: zone NAME, N records, serial S`
abbrev pub summary_line : List ℕ → DomainName → ℕ → RecordLine → List ℕ
summary_line file origin count start =
    shown Text file ++ zone_part origin ++ counts_part count (serial_of start.rdata)

-- the line about a zone without a warning
abbrev pub summary_of : List ℕ → Result ZoneContent ZoneFault → List EntryLine → List Warning → List ℕ
summary_of file (Ok zone) entries [] = elim (first_start entries) [
  | Some start ↦ summary_line file zone.origin (count_records entries) start
  | None ↦ []
]
summary_of file outcome entries warnings = []

-- the line about a check
abbrev pub zone_summary : List ℕ → ZoneCheck → List ℕ
zone_summary file check = summary_of file check.outcome check.entries.items check.warnings.items
