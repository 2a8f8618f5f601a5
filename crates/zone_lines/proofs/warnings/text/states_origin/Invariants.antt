use Rattle.std.proofs.Common.{◌≡◌, drop, map}
use Rattle.zone_lines.specs.warnings.Text.{states_origin}
use Rattle.zone_lines.proofs.warnings.text.states_origin.Given as goal

-- no line before the index begins so
abbrev pub invariant-loop-line : goal.invariant-loop-line
invariant-loop-line l = states_origin (map (λ line. line.now) (drop l.line-index l.lines)) ≡ states_origin (map (λ line. line.now) l.lines)
