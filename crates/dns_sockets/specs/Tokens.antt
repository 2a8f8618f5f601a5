-- The numbers of sockets.
use Rattle.std.specs.Prelude.{ℕ, zero, suc}
use Rattle.dns_sockets.specs.declared.tokens.SocketToken.{SocketToken}
use Rattle.dns_sockets.specs.declared.tokens.SocketToken.TheVariants as sockets

-- which kind of socket it is
abbrev pub kind_of : SocketToken → ℕ
kind_of (sockets.Datagrams index) = 0
kind_of (sockets.Listener index) = 1
kind_of (sockets.Stream index) = 2
kind_of sockets.Input = 3

-- its index among those of its kind
abbrev pub index_of : SocketToken → ℕ
index_of (sockets.Datagrams index) = index
index_of (sockets.Listener index) = index
index_of (sockets.Stream index) = index
index_of sockets.Input = 0

-- the socket of a kind with an index
abbrev pub socket_of : ℕ → ℕ → SocketToken
socket_of zero index = sockets.Datagrams index
socket_of (suc zero) index = sockets.Listener index
socket_of (suc (suc zero)) index = sockets.Stream index
socket_of (suc (suc (suc more))) index = sockets.Input
