use Rattle.std.proofs.Common.{List, ℕ, Bor, map, ap, ◌∙◌}
use Rattle.zone_check.specs.findings.Finding.{sentences}
use Rattle.zone_check.proofs.ScriptLaws.{line_reported}
use Rattle.zone_check.proofs.script_text.script_report.Goals as goal

pub returns : goal.returns
returns c =
    line_reported c.args.format c.args.file.now c.args.text.now c.args.line c.text_at.result.now c.in_ok-mistake.mistake.word
    (sentences c.in_ok-mistake.mistake.advice) _ _ _ _ _
    (ap (λ (l : List (Bor (List ℕ))). map (λ line. line.now) l) c.as_slice.ensures.value ∙ c.in_ok-lines.ensures.ok)
    (ap (λ (l : List (Bor (List ℕ))). map (λ line. line.now) l) c.as_slice-2.ensures.value ∙ c.in_ok-lines.ensures.ok)
    c.text_at.ensures c.new-report.ensures.bytes c.finding_on-finding.ensures c.in_ok-mistake.ensures.word c.in_ok-mistake.ensures.mark c.in_ok-push_to.ensures
