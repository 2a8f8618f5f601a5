use Rattle.std.proofs.Common.{length, map}
use Rattle.dns_durable.proofs.ReplayLaws.{HasReplayed}
use Rattle.dns_durable.proofs.replaying.replay.Given as goal

-- the updates in front of those that are left were served
abbrev pub invariant-loop-rest : goal.invariant-loop-rest
invariant-loop-rest l = HasReplayed l.fn.server (map (λ u. u.now) l.fn.updates) (map (λ u. u.now) l.rest) l.server

abbrev pub decreases-loop-rest : goal.decreases-loop-rest
decreases-loop-rest l = length l.rest
