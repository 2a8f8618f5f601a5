use Rattle.std.proofs.Common.{◌≡◌, ◌++◌, take, string_bytes}
use Rattle.zone_check.specs.Fault.{start_view}
use Rattle.zone_check.specs.Report.{said_of_warnings}
use Rattle.zone_check.specs.Files.{files_view, report_text}
use Rattle.zone_check.proofs.report.push_warnings.Given as goal

-- the report has the warnings so far
abbrev pub invariant-loop-warning : goal.invariant-loop-warning
invariant-loop-warning l =
    string_bytes l.report
    ≡ string_bytes l.initial.report
    ++ report_text l.format (files_view l.files) (said_of_warnings (start_view l.start) l.check.entries.items (take l.warning-index l.check.warnings.items))
