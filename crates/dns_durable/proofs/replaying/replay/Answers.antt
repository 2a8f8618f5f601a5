use Rattle.std.proofs.Common.{map}
use Rattle.dns_durable.proofs.ReplayLaws.{replayed_all, replayed_more, replayed_none}
use Rattle.dns_durable.proofs.replaying.replay.Goals as goal

pub loop-rest-init : goal.loop-rest-init
loop-rest-init c = replayed_none c.args.server.now (map (λ u. u.now) c.args.updates.now)

pub loop-rest-preserved : goal.loop-rest-preserved
loop-rest-preserved c =
    replayed_more c.loop-rest.rest.now _ c.args.server.now c.loop-rest.server c.replay_update.new.server (map (λ u. u.now) c.args.updates.now)
    c.in-len1-up.len_at_least c.loop-rest.invariant c.in_ok-replay_update.ensures.ok

pub returns-clause-ok : goal.returns-clause-ok
returns-clause-ok c =
    replayed_all c.loop-rest.rest.now c.args.server.now c.loop-rest.server (map (λ u. u.now) c.args.updates.now) c.in_default.len_below c.loop-rest.invariant
