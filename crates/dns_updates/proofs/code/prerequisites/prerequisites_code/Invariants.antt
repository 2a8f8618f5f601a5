use Rattle.std.proofs.Common.{◌≡◌, drop}
use Rattle.dns_updates.specs.Code.{first_fault_of, prerequisite_code}
use Rattle.dns_updates.proofs.code.prerequisites.prerequisites_code.Given as goal

abbrev pub invariant-loop-prerequisite : goal.invariant-loop-prerequisite
invariant-loop-prerequisite g l = first_fault_of (prerequisite_code l.origin (g.Z.ZoneRows.rows l.zone)) (drop l.prerequisite-index l.prerequisites) ≡ first_fault_of (prerequisite_code l.origin (g.Z.ZoneRows.rows l.zone)) l.prerequisites
