use Rattle.std.proofs.Common.{◌≡◌, ◌<◌, List, length, drop, true}
use Rattle.zone_lines.specs.declared.record_line.EntryLine.{EntryLine}
use Rattle.zone_lines.specs.warnings.Cuts.{has_cut_from}
use Rattle.zone_lines.specs.warnings.Survey.{Surveys, facts_view}
use Rattle.zone_lines.proofs.warnings.cuts.is_below_cut.Given as goal

-- the names that are left decide, and are fully qualified
abbrev pub invariant-loop-above : goal.invariant-loop-above
invariant-loop-above l =
    ((entries : List EntryLine) → Surveys l.survey (facts_view l.facts) entries
    → has_cut_from (facts_view l.facts) entries l.above.labels ≡ has_cut_from (facts_view l.facts) entries (drop 1 l.name.labels))
    × (0 < length l.above.labels → l.above.is_fqdn ≡ true)

abbrev pub decreases-loop-above : goal.decreases-loop-above
decreases-loop-above l = length l.above.labels
