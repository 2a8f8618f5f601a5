use Rattle.dns_sockets.specs.Events.{Performs}
use Rattle.dns_sockets.specs.World.{AreCopies}
use Rattle.dns_sockets.proofs.datagrams.send.Given as goal

-- so many copies were sent
abbrev pub invariant-loop-copy : goal.invariant-loop-copy
invariant-loop-copy g l = Performs g.W.World.performs l.initial.world l.world (AreCopies l.reply.socket l._copy l.reply.bytes.items l.reply.peer)
