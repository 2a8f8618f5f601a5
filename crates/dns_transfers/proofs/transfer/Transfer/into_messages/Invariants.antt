use Rattle.std.proofs.Common.{length, map}
use Rattle.dns_transfers.specs.Sending.{sending}
use Rattle.dns_transfers.proofs.SendingLaws.{Made}
use Rattle.dns_transfers.proofs.transfer.Transfer.into_messages.Given as goal

abbrev pub invariant-loop-messages : goal.invariant-loop-messages
invariant-loop-messages g l = Made (sending g.S.RecordSource.left l.initial.self) (sending g.S.RecordSource.left l.self) (map (λ bytes. bytes.items) l.messages.items)

abbrev pub decreases-loop-messages : goal.decreases-loop-messages
decreases-loop-messages g l = length (sending g.S.RecordSource.left l.self).records
