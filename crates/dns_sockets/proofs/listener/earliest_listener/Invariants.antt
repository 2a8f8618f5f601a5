use Rattle.std.proofs.Common.{◌≡◌, take}
use Rattle.dns_sockets.specs.Deadlines.{earliest, listener_deadline}
use Rattle.dns_sockets.proofs.listener.earliest_listener.Given as goal

-- the earliest so far
abbrev pub invariant-loop-listener : goal.invariant-loop-listener
invariant-loop-listener l = l.least ≡ earliest listener_deadline (take l.listener-index l.listeners)
