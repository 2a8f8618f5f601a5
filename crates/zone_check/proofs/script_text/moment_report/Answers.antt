use Rattle.std.proofs.Common.{◌++◌, ℕ, List, Bor, map, ap, ◌∙◌}
use Rattle.std.specs.Str.Lines.{lines}
use Rattle.zone_check.specs.findings.Finding.{Said, finding_text, said_by}
use Rattle.zone_check.proofs.script_text.moment_report.Goals as goal

pub returns : goal.returns
returns c =
    let shown : List (List ℕ) = map (λ line. line.now) c.as_slice.result.now in
    c.in_ok-push_to.ensures
    ∙ ap (λ (l : List ℕ). l ++ finding_text c.args.format c.args.file.now shown (said_by c.finding_on-finding.result)) c.new-report.ensures.bytes
    ∙ ap (λ (l : List (List ℕ)). finding_text c.args.format c.args.file.now l (said_by c.finding_on-finding.result))
    (ap (λ (l : List (Bor (List ℕ))). map (λ line. line.now) l) c.as_slice.ensures.value ∙ c.in_ok-lines.ensures.ok)
    ∙ ap (λ (s : Said). finding_text c.args.format c.args.file.now (lines c.args.text.now) s) c.finding_on-finding.ensures
