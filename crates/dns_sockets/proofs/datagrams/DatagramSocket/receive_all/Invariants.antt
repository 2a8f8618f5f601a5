use Rattle.dns_sockets.specs.Datagrams.{IsTurn}
use Rattle.dns_sockets.specs.Trace.{Traces}
use Rattle.dns_sockets.proofs.datagrams.DatagramSocket.receive_all.Given as goal

-- what happened is a turn
abbrev pub invariant-loop-datagram : goal.invariant-loop-datagram
invariant-loop-datagram g l =
    Traces g.W.World.performs g.H.Handler.steps l.initial.world l.initial.handler l.world l.handler (IsTurn l.index l.initial.gathered.items l.initial.waiting l.gathered.items l.waiting)
