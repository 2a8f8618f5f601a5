use Rattle.std.proofs.Common.{◌≡◌, drop}
use Rattle.zone_lines.specs.Line.{lines_view}
use Rattle.zone_lines.specs.warnings.Text.{has_directive}
use Rattle.zone_lines.proofs.warnings.text.has_directive.Given as goal

-- no text before the index has such a line
abbrev pub invariant-loop-lines : goal.invariant-loop-lines
invariant-loop-lines l = has_directive (lines_view (drop l.lines-index l.texts)) ≡ has_directive (lines_view l.texts)
