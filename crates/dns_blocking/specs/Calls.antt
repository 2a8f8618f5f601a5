-- Calls of sockets: what their errors mean, and the address that they are for.
use Rattle.std.specs.Prelude.{[], ◌∷◌}
use Rattle.std.specs.declared.net.socket_addr.SocketAddr.{SocketAddr}
use Rattle.std.specs.declared.net.socket_addr.SocketAddr.TheVariants as socket
use Rattle.std.specs.declared.io.ErrorKind.{ErrorKind}
use Rattle.std.specs.declared.io.ErrorKind.TheVariants as kinds
use Rattle.dns_blocking.specs.declared.calls.Trouble.{Trouble}
use Rattle.dns_blocking.specs.declared.calls.Trouble.TheVariants.{Interrupted, NotReady, Failed}

-- what the kind of an error means: the call is repeated, the socket was not ready in time, or the call failed
abbrev pub trouble_of : ErrorKind → Trouble
trouble_of kinds.Interrupted = Interrupted
trouble_of kinds.WouldBlock = NotReady
trouble_of kinds.TimedOut = NotReady
trouble_of _ = Failed

-- a free port of the loopback interface (RFC 1122 section 3.2.1.3): 127.0.0.1, and port 0
abbrev pub loopback : SocketAddr
loopback = socket.V4 (record { ip = record { octets = 127 ∷ 0 ∷ 0 ∷ 1 ∷ [] }; port = 0 })
