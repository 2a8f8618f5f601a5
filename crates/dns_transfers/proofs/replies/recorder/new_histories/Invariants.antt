use Rattle.std.proofs.Common.{take}
use Rattle.dns_transfers.specs.replies.Recording.{AreNewOf}
use Rattle.dns_transfers.proofs.replies.recorder.new_histories.Given as goal

-- the histories so far are of the zones so far
abbrev pub invariant-loop-zone : goal.invariant-loop-zone
invariant-loop-zone l = AreNewOf l.limits (take l.zone-index l.zones) l.histories.items
