-- What happens between a service and the world.
use Rattle.std.specs.Prelude.{◌≡◌, ◌≤◌, ℕ, Bool, List, [], length, take, ⊤, Option, Some, None, Result, Ok, Err}
use Rattle.std.specs.List.{AllByRecursion}
use Rattle.std.specs.declared.io.Error.{Error}
use Rattle.std.specs.declared.net.socket_addr.SocketAddr.{SocketAddr}
use Rattle.dns_sockets.specs.declared.world.Arrival.{Arrival}
use Rattle.dns_sockets.specs.declared.world.Arrival.TheVariants as arrivals
use Rattle.dns_sockets.specs.declared.world.Progress.{Progress}
use Rattle.dns_sockets.specs.declared.world.Progress.TheVariants as progresses
use Rattle.dns_sockets.specs.declared.world.Receipt.{Receipt}
use Rattle.dns_sockets.specs.declared.world.Receipt.TheVariants as receipts
use Rattle.dns_sockets.specs.declared.world.Wake.{Wake}

-- What happens. A number is the index of a datagram socket, of a listener or of a connection, but for times, which are in milliseconds.
pub data WorldEvent : Type 0 where
  -- a datagram arrives from a peer, or none does
  Received : ℕ → List ℕ → SocketAddr → WorldEvent
  Unreceived : ℕ → WorldEvent
  -- a datagram is sent to a peer, and the system takes it or not
  Sent : ℕ → List ℕ → SocketAddr → Bool → WorldEvent
  -- a connection is accepted from a peer, or none is; it is given an index, or cannot be; it is closed
  Accepted : ℕ → Option SocketAddr → WorldEvent
  Admitted : ℕ → Bool → WorldEvent
  Closed : ℕ → WorldEvent
  -- bytes are read from a connection, or cannot be; bytes are written on it
  Read : ℕ → Option (List ℕ) → WorldEvent
  Written : ℕ → List ℕ → WorldEvent
  -- the clock shows a time, or fails; the service waits, at most so long; what ended the wait
  Clocked : Option ℕ → WorldEvent
  Waited : Option ℕ → WorldEvent
  Woken : Option Wake → WorldEvent

-- a receive into a buffer
abbrev pub receive_event : ℕ → Receipt → List ℕ → WorldEvent
receive_event socket (receipts.Datagram len peer) buffer = Received socket (take len buffer) peer
receive_event socket receipts.Interrupted buffer = Unreceived socket
receive_event socket receipts.Nothing buffer = Unreceived socket
receive_event socket receipts.Failed buffer = Unreceived socket

-- an attempt to accept a connection
abbrev pub accept_event : ℕ → Arrival → WorldEvent
accept_event listener (arrivals.Connection peer) = Accepted listener (Some peer)
accept_event listener arrivals.Interrupted = Accepted listener None
accept_event listener arrivals.Nothing = Accepted listener None
accept_event listener arrivals.Failed = Accepted listener None

-- a read into a buffer
abbrev pub read_event : ℕ → Progress → List ℕ → WorldEvent
read_event stream (progresses.Bytes count) buffer = Read stream (Some (take count buffer))
read_event stream progresses.Interrupted buffer = Read stream None
read_event stream progresses.Nothing buffer = Read stream None
read_event stream progresses.Failed buffer = Read stream None

-- a write of bytes, of which the system takes the first
abbrev pub write_event : ℕ → Progress → List ℕ → WorldEvent
write_event stream (progresses.Bytes count) bytes = Written stream (take count bytes)
write_event stream progresses.Interrupted bytes = Written stream []
write_event stream progresses.Nothing bytes = Written stream []
write_event stream progresses.Failed bytes = Written stream []

-- a reading of the clock
abbrev pub clock_event : Result ℕ Error → WorldEvent
clock_event (Ok now) = Clocked (Some now)
clock_event (Err error) = Clocked None

-- a datagram has no more bytes than the buffer
abbrev pub IsArrivalWithin : Receipt → ℕ → Type 0
IsArrivalWithin (receipts.Datagram len peer) room = len ≤ room
IsArrivalWithin receipts.Interrupted room = ⊤
IsArrivalWithin receipts.Nothing room = ⊤
IsArrivalWithin receipts.Failed room = ⊤

-- no more bytes are read or written than there is room for, or than there are
abbrev pub IsWithin : Progress → ℕ → Type 0
IsWithin (progresses.Bytes count) most = count ≤ most
IsWithin progresses.Interrupted most = ⊤
IsWithin progresses.Nothing most = ⊤
IsWithin progresses.Failed most = ⊤

-- a datagram is sent from a socket to a peer
abbrev pub IsSent : ℕ → List ℕ → SocketAddr → WorldEvent → Type 0
IsSent socket bytes peer (Sent index sent to is_taken) = (index ≡ socket) × ((sent ≡ bytes) × (to ≡ peer))
IsSent socket bytes peer event = ⊥

-- so many copies of a datagram are sent from a socket to a peer, and nothing else happens
abbrev pub AreCopies : ℕ → ℕ → List ℕ → SocketAddr → List WorldEvent → Type 0
AreCopies socket count bytes peer events = (length events ≡ count) × AllByRecursion (IsSent socket bytes peer) events

-- how many bytes were read or written
abbrev pub moved : Progress → ℕ
moved (progresses.Bytes count) = count
moved progresses.Interrupted = 0
moved progresses.Nothing = 0
moved progresses.Failed = 0
