use Rattle.std.proofs.Common.{ℕ, List, [], ◌++◌, Some, None, ap, ◌∙◌}
use Rattle.zone_check.specs.Encoding.{encoding_said}
use Rattle.zone_check.specs.findings.Finding.{Said, finding_text, said_by}
use Rattle.zone_check.specs.Fault.{fault_said}
use Rattle.zone_check.proofs.encoding.invalid_report.Goals as goal

pub returns : goal.returns
returns c =
    c.in_ok-push_to.ensures
    ∙ ap (λ (l : List ℕ). l ++ finding_text c.args.format c.args.file.now [] (said_by c.finding_on-finding.result)) c.new-report.ensures.bytes
    ∙ ap (λ (s : Said). finding_text c.args.format c.args.file.now [] s)
    (c.finding_on-finding.ensures ∙ ap (λ (n : ℕ). fault_said 0 (Some n) None (encoding_said c.args.before.now).advice) c.line_after.ensures)
