use Rattle.std.proofs.Common.{◌≡◌, take}
use Rattle.nameserver_handlers.specs.Notices.{new_follower}
use Rattle.nameserver_handlers.proofs.notices.new_follower.Given as goal

-- the first secondaries are added
abbrev pub invariant-loop-secondary : goal.invariant-loop-secondary
invariant-loop-secondary l = l.notifier ≡ (new_follower (take l.secondary-index l.secondaries) l.zone).notifier
