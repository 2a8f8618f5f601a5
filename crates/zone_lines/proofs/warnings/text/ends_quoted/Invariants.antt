use Rattle.std.proofs.Common.{◌≡◌, drop}
use Rattle.zone_lines.specs.warnings.Text.{ends_quoted, ends_quoted_from}
use Rattle.zone_lines.proofs.warnings.text.ends_quoted.Given as goal

-- the rest of the line decides
abbrev pub invariant-loop-c : goal.invariant-loop-c
invariant-loop-c l = ends_quoted_from l.spot (drop l.c-index l.c-items) ≡ ends_quoted l.line
