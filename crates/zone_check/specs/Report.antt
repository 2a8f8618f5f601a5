-- What is said of a zone file: its faults, and then its warnings, in the order of its lines.
use Rattle.std.specs.Prelude.{if◌then◌else◌, is_some, ℕ, Bool, true, false, List, [], ◌∷◌, ◌++◌, codes, flat_map, slice_get, Option, Some, None, option_map, option_and_then, Result, Ok, Err}
use Rattle.std.specs.Fmt.{decimal}
use Rattle.std.specs.Option.{option_to_list}
use Rattle.dns_names.specs.Name.{DomainName}
use Rattle.dns_names.specs.Print.{text_of_name}
use Rattle.dns_zone.specs.Rows.{ZoneContent}
use Rattle.dns_zone.specs.declared.zone.ZoneFault.{ZoneFault}
use Rattle.dns_zone.specs.declared.zone.ZoneFault.TheVariants as fault
use Rattle.zone_check.specs.Apex.{some_starts}
use Rattle.dns_zone_file.specs.declared.types.Types.{Types}
use Rattle.zone_check.specs.Fault.{Start, entry_said, fault_said, zone_of}
use Rattle.zone_check.specs.Files.{report_text}
use Rattle.zone_check.specs.Mark.{mark_said}
use Rattle.zone_check.specs.declared.check.ZoneCheck.{ZoneCheck}
use Rattle.zone_check.specs.findings.FaultText.{fault_sentences}
use Rattle.zone_check.specs.findings.Finding.{Said}
use Rattle.zone_check.specs.declared.findings.format.ReportFormat.{ReportFormat}
use Rattle.zone_check.specs.findings.WarningText.{warning_sentences}
use Rattle.zone_check.specs.declared.findings.finding.Severity.TheVariants as severity
use Rattle.zone_lines.specs.Line.{lines_of_file}
use Rattle.zone_lines.specs.Source.{FileText}
use Rattle.zone_lines.specs.declared.record_line.EntryLine.{EntryLine}
use Rattle.zone_lines.specs.declared.record_line.EntryLine.TheVariants as entry
use Rattle.zone_lines.specs.declared.warnings.digest.DigestLengths.{DigestLengths}
use Rattle.zone_lines.specs.warnings.Digest.{wrong_digest}
use Rattle.zone_lines.specs.warnings.Names.{doubled_origin, name_below}
use Rattle.zone_lines.specs.declared.warnings.kind.Warning.{Warning}
use Rattle.zone_lines.specs.declared.warnings.kind.WarningKind.{WarningKind}
use Rattle.zone_lines.specs.declared.warnings.kind.WarningKind.TheVariants as about

-- ---- faults

-- what is said of entries: at most one thing of each, in order
abbrev pub entries_said : Start → List EntryLine → List Said
entries_said z entries = flat_map (λ e. option_to_list (entry_said z e)) entries

-- what is said of a whole file
abbrev pub file_said : Types → ZoneFault → Said
file_said types refusal = fault_said 0 None None (fault_sentences types refusal)

-- the fault of a whole file, if nothing is said of its entries
abbrev pub or_file : Types → ZoneFault → List Said → List Said
or_file types refusal [] = file_said types refusal ∷ []
or_file types refusal (s ∷ said) = s ∷ said

-- What is said of a file that is refused: of its entries, and that no SOA record is there, unless some entry is one or may be
-- meant as one; or at least of the whole file.
abbrev pub whole_said : Types → ZoneFault → List EntryLine → List Said → List Said
whole_said types refusal entries said =
    if some_starts entries then or_file types refusal said else said ++ file_said types fault.NoSoa ∷ []

-- what is said of a byte-order mark at the start of a file, if there is one
abbrev pub marks_said : Bool → List Said
marks_said true = fault_said 0 (Some 1) None mark_said ∷ []
marks_said false = []

-- what is said of the mark and the entries of a file
abbrev pub parts_said : Start → List EntryLine → List Said
parts_said z entries = marks_said z.has_mark ++ entries_said z entries

-- what is said of the faults of a file: nothing of a zone
abbrev pub outcome_said : Start → List EntryLine → Result ZoneContent ZoneFault → List Said
outcome_said z entries (Ok zone) = []
outcome_said z entries (Err refusal) = whole_said z.types refusal entries (parts_said z entries)

-- what decides on the records of a check
abbrev pub start_of_check : FileText → ZoneCheck → Start
start_of_check file check = zone_of file check.origin check.entries.items

-- what is said of the faults of a check
abbrev pub faults_said : FileText → ZoneCheck → List Said
faults_said file check = outcome_said (start_of_check file check) check.entries.items check.outcome

-- ---- warnings

-- what is said of a warning that shows a word, if there is one
abbrev pub word_said : Option (List ℕ) → Warning → Said
word_said word w = record {
  source = w.at.source;
  line = Some w.at.line;
  severity = severity.Warning;
  word = word;
  advice = warning_sentences w.kind;
}

-- the name that a kind of warning about an entry shows: of a missing dot, the one that ends in the origin twice, as it is
-- completed
abbrev pub shown_name : Option DomainName → EntryLine → WarningKind → Option DomainName
shown_name (Some doubled) (entry.Record r) about.MissingDot = name_below doubled r
shown_name doubled e kind = None

-- the lengths that a kind of warning about an entry shows: of a digest that has another than its type
abbrev pub shown_lengths : EntryLine → WarningKind → Option DigestLengths
shown_lengths (entry.Record r) about.WrongDigest = wrong_digest r.rdata
shown_lengths e kind = None

-- `2 bytes, not 32`
abbrev pub lengths_part : ℕ → ℕ → List ℕ
lengths_part found wanted = decimal found ++ codes " bytes, not " ++ decimal wanted

-- the lengths of a digest, as they are shown
abbrev pub lengths_text : DigestLengths → List ℕ
lengths_text lengths = lengths_part lengths.found lengths.wanted

-- what a kind of warning about an entry shows: lengths, or a name
abbrev pub shown_word : Option DomainName → EntryLine → WarningKind → Option (List ℕ)
shown_word doubled e kind = elim (shown_lengths e kind) [
  | Some lengths ↦ Some (lengths_text lengths)
  | None ↦ option_map text_of_name (shown_name doubled e kind)
]

-- the origin with its labels once more, if it is known
abbrev pub doubled_apex : Start → Option DomainName
doubled_apex z = option_and_then doubled_origin z.apex

-- what is said of a warning about an entry: nothing if the entry has a fault
abbrev pub entry_warned : Start → Warning → EntryLine → List Said
entry_warned z w e =
    if is_some (entry_said z e) then [] else word_said (shown_word (doubled_apex z) e w.kind) w ∷ []

-- what is said of warnings about entries
abbrev pub said_of_warning : Start → List EntryLine → Warning → List Said
said_of_warning z entries w = elim (slice_get entries w.place) [ Some e ↦ entry_warned z w e | None ↦ [] ]

-- what is said of all warnings about entries
abbrev pub said_of_warnings : Start → List EntryLine → List Warning → List Said
said_of_warnings z entries warnings = flat_map (said_of_warning z entries) warnings

-- what is said of the warnings of a check
abbrev pub warnings_said : FileText → ZoneCheck → List Said
warnings_said file check = said_of_warnings (start_of_check file check) check.entries.items check.warnings.items

-- ---- a whole check

-- all that is said of a check
abbrev pub check_said : FileText → ZoneCheck → List Said
check_said file check = faults_said file check ++ warnings_said file check

-- the report of a check of a file, whose names are those of the file and of those of the texts to include
abbrev pub zone_report : ReportFormat → List (List ℕ) → FileText → ZoneCheck → List ℕ
zone_report format names file check =
    report_text format (record { names = names; texts = lines_of_file file }) (check_said file check)
