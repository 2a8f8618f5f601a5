use Rattle.std.proofs.Common.{◌++◌, ℕ, List, Option, map, ap, ◌∙◌, string_bytes}
use Rattle.dns_names.specs.Name.{DomainName}
use Rattle.zone_lines.specs.Line.{lines_view}
use Rattle.zone_lines.specs.Source.{text_view}
use Rattle.zone_lines.specs.declared.record_line.EntryLine.{EntryLine}
use Rattle.zone_check.specs.findings.Finding.{said_by}
use Rattle.zone_check.specs.declared.findings.finding.Finding.{Finding}
use Rattle.zone_check.specs.Fault.{start_view, zone_of}
use Rattle.zone_check.specs.Files.{ShownFiles, names_view, report_text}
use Rattle.zone_check.proofs.ReportLaws.{empty_report, reported}
use Rattle.zone_check.proofs.report.zone_report.Goals as goal

pub returns-clause-report : goal.returns-clause-report
returns-clause-report c =
    let names : List (List ℕ) = names_view c.args.names.now in
    let files : ShownFiles = record { names = names; texts = lines_view c.as_slice.result.now } in
    reported c.args.format names (text_view c.args.file.now) c.args.check.now (string_bytes c.new-report.result)
    (string_bytes c.push_findings.new.report) (string_bytes c.push_warnings.new.report) files (start_view c.zone_start-start.result)
    c.in_ok-faults.faults.items c.new-report.ensures.bytes
    (ap (λ (texts : List (List (List ℕ))). let both : ShownFiles = record { names = names; texts = texts } in both)
    (ap lines_view c.as_slice.ensures.value ∙ c.in_ok-texts.ensures))
    (c.zone_start-start.ensures
    ∙ ap (λ (o : Option DomainName). zone_of (text_view c.args.file.now) o c.as_slice-2.result.now) c.as_ref.ensures.value
    ∙ ap (λ (l : List EntryLine). zone_of (text_view c.args.file.now) c.args.check.now.origin l) c.as_slice-2.ensures.value)
    c.in_ok-faults.ensures
    (c.in_ok-push_findings.ensures
    ∙ ap (λ (l : List Finding). string_bytes c.new-report.result ++ report_text c.args.format files (map said_by l)) c.as_slice-3.ensures.value)
    c.in_ok-push_warnings.ensures

pub returns-clause-empty : goal.returns-clause-empty
returns-clause-empty c =
    empty_report c.args.format (names_view c.args.names.now) (text_view c.args.file.now) c.args.check.now
    (string_bytes c.push_warnings.new.report) (returns-clause-report c)
