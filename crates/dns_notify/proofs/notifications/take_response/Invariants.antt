use Rattle.std.proofs.Common.{◌≡◌, ◌++◌, map, take, drop}
use Rattle.dns_notify.specs.Notifications.{after_response}
use Rattle.dns_notify.proofs.notifications.take_response.Given as goal

-- the secondaries so far are without a notification if they have the address
abbrev pub invariant-loop-secondary : goal.invariant-loop-secondary
invariant-loop-secondary l =
    l.secondaries ≡ map (after_response l.address) (take l.secondary-index l.initial.secondaries) ++ drop l.secondary-index l.initial.secondaries
