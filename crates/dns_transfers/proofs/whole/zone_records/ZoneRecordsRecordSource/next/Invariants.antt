use Rattle.std.proofs.Common.{◌≡◌}
use Rattle.dns_transfers.specs.whole.ZoneRecords.{remaining, sets_left}
use Rattle.dns_transfers.proofs.whole.zone_records.ZoneRecordsRecordSource.next.Given as goal

-- going on to the next set leaves the same records
abbrev pub invariant-loop-self : goal.invariant-loop-self
invariant-loop-self l = remaining l.self ≡ remaining l.initial.self

abbrev pub decreases-loop-self : goal.decreases-loop-self
decreases-loop-self l = sets_left l.self
