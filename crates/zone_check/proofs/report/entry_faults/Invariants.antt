use Rattle.std.proofs.Common.{◌≡◌, map, take}
use Rattle.zone_check.specs.Fault.{start_view}
use Rattle.zone_check.specs.Report.{entries_said}
use Rattle.zone_check.specs.findings.Finding.{said_by}
use Rattle.zone_check.proofs.report.entry_faults.Given as goal

-- what is said of the entries so far
abbrev pub invariant-loop-entry : goal.invariant-loop-entry
invariant-loop-entry l = map said_by l.found.items ≡ entries_said (start_view l.start) (take l.entry-index l.entries)
