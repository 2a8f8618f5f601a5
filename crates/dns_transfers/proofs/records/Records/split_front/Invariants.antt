use Rattle.std.proofs.Common.{length}
use Rattle.dns_transfers.specs.Records.{left_of}
use Rattle.dns_transfers.proofs.RecordLaws.{Takes}
use Rattle.dns_transfers.proofs.records.Records.split_front.Given as goal

abbrev pub invariant-loop-next : goal.invariant-loop-next
invariant-loop-next g l = Takes (left_of g.S.RecordSource.left l.fn.self) l.room l.batch.items l.left (left_of g.S.RecordSource.left l.rest)

abbrev pub decreases-loop-next : goal.decreases-loop-next
decreases-loop-next g l = length (left_of g.S.RecordSource.left l.rest)
