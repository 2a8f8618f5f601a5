use Rattle.std.proofs.Common.{◌≡◌, ◌++◌, map, take, drop}
use Rattle.dns_notify.specs.Secondary.{announcement, with_pending}
use Rattle.dns_notify.proofs.notifications.announce_to.Given as goal

-- the copies for the secondaries so far are due
abbrev pub invariant-loop-secondary : goal.invariant-loop-secondary
invariant-loop-secondary l =
    l.secondaries
    ≡ map (with_pending (announcement l.retries l.now)) (take l.secondary-index l.initial.secondaries) ++ drop l.secondary-index l.initial.secondaries
