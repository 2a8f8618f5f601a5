use Rattle.std.proofs.Common.{◌≡◌, drop}
use Rattle.zone_lines.specs.warnings.Text.{cuts_from, cuts_word}
use Rattle.zone_lines.proofs.warnings.text.cuts_word.Given as goal

-- the rest of the line decides
abbrev pub invariant-loop-c : goal.invariant-loop-c
invariant-loop-c l = cuts_from l.spot (drop l.c-index l.c-items) ≡ cuts_word l.line
