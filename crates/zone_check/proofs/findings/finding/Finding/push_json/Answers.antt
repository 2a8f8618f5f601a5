use Rattle.std.proofs.Common.{codes, string_bytes}
use Rattle.zone_check.proofs.AppendLaws.{after, after_is, first}
use Rattle.zone_check.proofs.ResultLaws.{if_pushed, on_ok}
use Rattle.zone_check.proofs.findings.finding.Finding.push_json.Goals as goal

pub returns : goal.returns
returns c =
    let start = first (string_bytes c.args.report.now) (codes "{\"file\":\"") _ c.in_ok-push_str.ensures.bytes in
    let file = after _ _ start c.in_ok-push_shown.ensures in
    let line = after _ _ (after _ _ file c.in_ok-push_str-2.ensures.bytes) c.in_ok-push_number.ensures in
    let kind = after_is _ _ _ (after _ _ line c.in_ok-push_str-3.ensures.bytes) c.in_ok-push_str-4.ensures.bytes c.name.ensures in
    let message = after _ _ (after _ _ (after _ _ kind c.in_ok-push_str-5.ensures.bytes) c.in_ok-push_shown-2.ensures) c.in_ok-push_word.ensures in
    let hint = after _ _ (after _ _ message c.in_ok-push_str-6.ensures.bytes) c.in_ok-push_shown-3.ensures in
    on_ok c.push_str-7.result _ _ (λ end. (after _ _ hint end).is) (if_pushed c.push_str-7.result _ _ _ c.push_str-7.ensures.bytes)
