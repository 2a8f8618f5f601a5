use Rattle.std.proofs.Common.{◌≡◌, drop}
use Rattle.dns_notify.specs.Notifications.{earlier, first_moment}
use Rattle.dns_notify.proofs.notifications.first_moment.Given as goal

-- the earliest moment so far, or one of those that are left, is the earliest of all
abbrev pub invariant-loop-secondary : goal.invariant-loop-secondary
invariant-loop-secondary l = earlier l.first (first_moment (drop l.secondary-index l.secondaries)) ≡ first_moment l.secondaries
