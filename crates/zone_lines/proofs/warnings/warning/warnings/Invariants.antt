use Rattle.zone_lines.specs.warnings.Survey.{facts_view}
use Rattle.zone_lines.proofs.KindLaws.{SoFar}
use Rattle.zone_lines.proofs.warnings.warning.warnings.Given as goal

-- the warnings of the entries so far
abbrev pub invariant-loop-place : goal.invariant-loop-place
invariant-loop-place l = SoFar (facts_view l.facts) l.entries l.place l.found.items
