use Rattle.std.proofs.Common.{◌≡◌, map, take}
use Rattle.nameserver_handlers.specs.Notices.{new_follower}
use Rattle.nameserver_handlers.proofs.notices.each_follower.Given as goal

-- the first zones have their followers
abbrev pub invariant-loop-zone : goal.invariant-loop-zone
invariant-loop-zone l = l.followers.items ≡ map (new_follower l.secondaries) (take l.zone-index l.zones)
