use Rattle.std.proofs.Common.{List}
use Rattle.dns_sockets.specs.Events.{Led}
use Rattle.dns_sockets.specs.World.{WorldEvent}
use Rattle.dns_sockets.proofs.NoticeLaws.{Tries}
use Rattle.dns_sockets.proofs.notices.send.Given as goal

-- the first sockets did not take the datagram
abbrev pub invariant-loop-socket : goal.invariant-loop-socket
invariant-loop-socket g l = (done : List WorldEvent) × (Led g.W.World.performs l.initial.world done l.world × Tries l.socket l.sockets l.notice.bytes.items l.notice.peer done)
