use Rattle.std.proofs.Common.{◌≤◌, ◌-◌}
use denote.Text.{Utf8}
use denote.Shadow.{shadow}
use Rattle.zone_lines.proofs.SkipLaws.{IsAfter}
use Rattle.zone_lines.proofs.skip.text_after.Given as goal

-- the rest is the text after the lines so far
abbrev pub invariant-loop-done : goal.invariant-loop-done
invariant-loop-done l = shadow (Utf8 l.rest) × (l.done ≤ l.count) × IsAfter l.text l.done l.rest

abbrev pub decreases-loop-done : goal.decreases-loop-done
decreases-loop-done l = l.count - l.done
