use Rattle.dns_transfers.proofs.RecordedLaws.{AreForgottenTo}
use Rattle.dns_transfers.proofs.replies.recorder.forget_all.Given as goal

-- the histories so far begin again
abbrev pub invariant-loop-place : goal.invariant-loop-place
invariant-loop-place l = AreForgottenTo l.initial.histories l.histories l.place
