use Rattle.std.proofs.Common.{◌≡◌, []}
use Rattle.dns_transfers.specs.incremental.DifferenceRecords.{parts_left, remaining}
use Rattle.dns_transfers.proofs.incremental.difference_records.DifferenceRecords.next_after_first.Given as goal

-- going on to the next part leaves the same records
abbrev pub invariant-loop-self : goal.invariant-loop-self
invariant-loop-self l = (remaining l.self ≡ remaining l.initial.self) × (l.self.first.now ≡ [])

abbrev pub decreases-loop-self : goal.decreases-loop-self
decreases-loop-self l = parts_left l.self
