use Rattle.std.proofs.Common.{◌≡◌, ◌++◌, List, take}
use Rattle.zone_lines.specs.declared.record_line.EntryLine.{EntryLine}
use Rattle.zone_lines.specs.warnings.Survey.{Surveys, facts_view}
use Rattle.zone_lines.specs.warnings.Warning.{warnings_among}
use Rattle.zone_lines.proofs.warnings.warning.push_warnings.Given as goal

-- the warnings of the kinds so far
abbrev pub invariant-loop-kind : goal.invariant-loop-kind
invariant-loop-kind l =
    (entries : List EntryLine) → Surveys l.survey (facts_view l.facts) entries
    → l.found.items ≡ l.fn.found.items ++ warnings_among (take l.kind-index l.kind-items) (facts_view l.facts) entries l.place l.record_line
