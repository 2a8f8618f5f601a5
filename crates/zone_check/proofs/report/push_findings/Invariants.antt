use Rattle.std.proofs.Common.{◌≡◌, ◌++◌, map, take, string_bytes}
use Rattle.zone_check.specs.Files.{files_view, report_text}
use Rattle.zone_check.specs.findings.Finding.{said_by}
use Rattle.zone_check.proofs.report.push_findings.Given as goal

-- the report has the findings so far
abbrev pub invariant-loop-finding : goal.invariant-loop-finding
invariant-loop-finding l =
    string_bytes l.report
    ≡ string_bytes l.initial.report
    ++ report_text l.format (files_view l.files) (map said_by (take l.finding-index l.findings))
