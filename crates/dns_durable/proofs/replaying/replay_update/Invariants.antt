use Rattle.std.proofs.Common.{length}
use Rattle.dns_durable.specs.Rule.{rule_in, step_of, updates_in}
use Rattle.dns_durable.proofs.ReplayLaws.{HasTaken}
use Rattle.dns_durable.proofs.replaying.replay_update.Given as goal

-- the requests in front of the frames that are left were served
abbrev pub invariant-loop-rest : goal.invariant-loop-rest
invariant-loop-rest l = HasTaken (step_of (rule_in l.fn.update)) l.fn.server (updates_in l.fn.update) l.rest l.server

abbrev pub decreases-loop-rest : goal.decreases-loop-rest
decreases-loop-rest l = length l.rest
