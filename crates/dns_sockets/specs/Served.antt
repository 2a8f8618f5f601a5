-- What a service does while it runs.
use Rattle.std.specs.Prelude.{List, Option}
use Rattle.dns_sockets.specs.Connections.{AreFollowed}
use Rattle.dns_sockets.specs.Ledger.{Earns}
use Rattle.dns_sockets.specs.Moments.{IsTimed}
use Rattle.dns_sockets.specs.Trace.{Act}
use Rattle.dns_sockets.specs.declared.datagrams.WaitingReply.{WaitingReply}
use Rattle.dns_sockets.specs.declared.stream.Stream.{Stream}
use Rattle.dns_sockets.specs.schedule.Schedule.{Waiting}

-- Where replies waited and there were connections, and others wait and are there after these acts: each datagram is earned, what happens on
-- each connection is allowed, and each request has the moment that the clock showed after it had arrived.
pub record IsServed (waiting : List (Waiting WaitingReply)) (streams : List (Option Stream)) (left : List (Waiting WaitingReply))
    (open_after : List (Option Stream)) (acts : List Act) : Type 0 where
  pub earns : Earns waiting left acts
  pub follows : AreFollowed streams open_after acts
  pub timed : IsTimed acts
