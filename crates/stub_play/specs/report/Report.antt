-- The text of a report, in either format.
use Rattle.std.specs.Prelude.{ℕ, List, [], ◌∷◌, ◌++◌}
use Rattle.dns_zone_file.specs.declared.types.Types.{Types}
use Rattle.stub_run.specs.declared.event.Event.{Event}
use Rattle.stub_run.specs.declared.report.EventReport.{EventReport}
use Rattle.stub_play.specs.declared.report.report.PlayFormat.{PlayFormat}
use Rattle.stub_play.specs.declared.report.report.PlayFormat.TheVariants.{Text, Json}
use Rattle.stub_play.specs.report.ReportJson.{json_line}
use Rattle.stub_play.specs.report.ReportText.{plain_text}

-- an event and its report
abbrev pub told_text : Types → PlayFormat → Event → EventReport → List ℕ
told_text types Text e report = plain_text types e report.reply
told_text types Json e report = json_line types e report

-- event by event, as far as both lists go
abbrev pub report_text : Types → PlayFormat → List Event → List EventReport → List ℕ
report_text types format [] reports = []
report_text types format (e ∷ events) [] = []
report_text types format (e ∷ events) (report ∷ reports) = told_text types format e report ++ report_text types format events reports
