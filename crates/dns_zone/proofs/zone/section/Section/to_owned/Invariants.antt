use Rattle.std.proofs.Common.{◌≡◌, ◌++◌, length}
use Rattle.dns_zone.specs.Section.{remaining_records, section_records}
use Rattle.dns_zone.proofs.zone.section.Section.to_owned.Given as goal

abbrev pub invariant-loop-row : goal.invariant-loop-row
invariant-loop-row l = section_records l.self ≡ l.copies ++ remaining_records l.rows

abbrev pub decreases-loop-row : goal.decreases-loop-row
decreases-loop-row l = length (remaining_records l.rows)
