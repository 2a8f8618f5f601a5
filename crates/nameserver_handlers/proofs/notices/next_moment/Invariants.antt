use Rattle.std.proofs.Common.{◌≡◌, drop}
use Rattle.dns_notify.specs.Notifications.{earlier}
use Rattle.nameserver_handlers.specs.Notices.{next_moment}
use Rattle.nameserver_handlers.proofs.notices.next_moment.Given as goal

-- the earliest moment so far, or one of those that are left, is the earliest of all
abbrev pub invariant-loop-follower : goal.invariant-loop-follower
invariant-loop-follower l = earlier l.first (next_moment (drop l.follower-index l.followers)) ≡ next_moment l.followers
