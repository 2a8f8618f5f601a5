use Rattle.std.proofs.Common.{◌≡◌, ◌++◌, map, length}
use Rattle.dns_records.specs.RecordSet.{RecordSetValue}
use Rattle.dns_zone.proofs.SetLaws.{Stored}
use Rattle.dns_zone.proofs.sets.ZoneSets.types_of.Given as goal

-- the sets that are left complete the types
abbrev pub invariant-loop-set : goal.invariant-loop-set
invariant-loop-set l = l.found.items ++ map (λ (e : Stored × RecordSetValue). e.1.record_type) l.sets ≡ map (λ (e : Stored × RecordSetValue). e.1.record_type) l.initial.sets

abbrev pub decreases-loop-set : goal.decreases-loop-set
decreases-loop-set l = length l.sets
