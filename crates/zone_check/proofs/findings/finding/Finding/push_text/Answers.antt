use Rattle.std.proofs.Common.{string_bytes}
use Rattle.zone_check.specs.findings.Shown.{shown}
use Rattle.zone_check.specs.declared.findings.format.ReportFormat.TheVariants.{Text}
use Rattle.zone_check.proofs.AppendLaws.{after, after_is, first}
use Rattle.zone_check.proofs.ResultLaws.{on_ok}
use Rattle.zone_check.proofs.findings.finding.Finding.push_text.Goals as goal

pub returns : goal.returns
returns c =
    let file = first (string_bytes c.args.report.now) (shown Text c.args.file.now) _ c.in_ok-push_shown.ensures in
    let line = after _ _ file c.in_ok-push_line_number.ensures in
    let severity = after_is _ _ _ (after _ _ line c.in_ok-push_str.ensures.bytes) c.in_ok-push_str-2.ensures.bytes c.name.ensures in
    let reason = after _ _ (after _ _ severity c.in_ok-push_str-3.ensures.bytes) c.in_ok-push_str-4.ensures.bytes in
    let word = after _ _ (after _ _ reason c.in_ok-push_word.ensures) c.in_ok-push_str-5.ensures.bytes in
    let text = after _ _ word c.in_ok-push_line_text.ensures in
    on_ok c.push_indented.result _ _ (λ end. (after _ _ text end).is) c.push_indented.ensures
