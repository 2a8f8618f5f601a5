use Rattle.std.proofs.Common.{◌≡◌, drop, map}
use Rattle.zone_check.specs.findings.FormText.{form_among}
use Rattle.zone_check.proofs.findings.form_text.form_among.Given as goal

-- the lines up to here are of other types
abbrev pub invariant-loop-other : goal.invariant-loop-other
invariant-loop-other l =
    form_among (map (λ line. (line.0, line.1.now)) (drop l.other-index l.forms)) l.number ≡ form_among (map (λ line. (line.0, line.1.now)) l.forms) l.number
