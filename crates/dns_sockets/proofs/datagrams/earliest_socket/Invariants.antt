use Rattle.std.proofs.Common.{◌≡◌, take}
use Rattle.dns_sockets.specs.Deadlines.{earliest, socket_deadline}
use Rattle.dns_sockets.proofs.datagrams.earliest_socket.Given as goal

-- the earliest so far
abbrev pub invariant-loop-socket : goal.invariant-loop-socket
invariant-loop-socket l = l.least ≡ earliest socket_deadline (take l.socket-index l.sockets)
