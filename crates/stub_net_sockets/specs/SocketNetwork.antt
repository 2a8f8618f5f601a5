-- What the calls of a network over sockets may do. What sockets carry is not known.
use Rattle.std.specs.Prelude.{◌≡◌, ◌<◌, ◌≤◌, ℕ, List, Option, Some, None, Result, Ok}
use Rattle.stub_link.specs.declared.link.LinkError.{LinkError}
use Rattle.stub_net.specs.Network.{NetworkCalls, network_calls}
use Rattle.stub_net_sockets.specs.declared.socket_network.SocketNetwork.{SocketNetwork}

-- A receive may have any result, but ends without a datagram only once the clock has passed its deadline, and with one only if it began
-- before. The clock does not go back.
pub record ReceivesUntil {R : Type 0} (old : SocketNetwork R) (deadline : ℕ) (found : Result (Option (List ℕ)) LinkError)
    (new : SocketNetwork R) : Type 0 where
  pub kept : old.clock.last ≤ new.clock.last
  pub passed : found ≡ Ok None → deadline ≤ new.clock.last
  pub arrived : (bytes : List ℕ) → found ≡ Ok (Some bytes) → old.clock.last < deadline

-- An exchange over a stream may have any result. The clock does not go back.
abbrev pub ContinuesClock : {R : Type 0} → SocketNetwork R → SocketNetwork R → Type 0
ContinuesClock old new = old.clock.last ≤ new.clock.last

-- A datagram may be sent or not, and the clock is not read.
abbrev pub KeepsClock : {R : Type 0} → SocketNetwork R → SocketNetwork R → Type 0
KeepsClock old new = new.clock ≡ old.clock

-- The clock is read: it has not gone back since it was read last.
pub record ReadsClock {R : Type 0} (old : SocketNetwork R) (now : ℕ) (new : SocketNetwork R) : Type 0 where
  pub kept : old.clock.last ≤ now
  pub noted : new.clock.last ≡ now

-- the calls of a network over sockets
abbrev pub socket_calls : {R : Type 0} → NetworkCalls (SocketNetwork R)
socket_calls = network_calls (λ old server bytes result new. KeepsClock old new) ReceivesUntil
    (λ old server bytes deadline result new. ContinuesClock old new) ReadsClock

-- the clock of a network over sockets: what was read last
abbrev pub socket_clock : {R : Type 0} → SocketNetwork R → ℕ
socket_clock network = network.clock.last
