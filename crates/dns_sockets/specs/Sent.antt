-- What a datagram is that a service sends.
use Rattle.std.specs.Prelude.{◌≡◌, ◌++◌, slice_get, ℕ, List, ◌∷◌, Some}
use Rattle.std.specs.Global.{Vec}
use Rattle.std.specs.List.{Contains}
use Rattle.std.specs.declared.net.socket_addr.SocketAddr.{SocketAddr}
use Rattle.dns_faults.specs.declared.delivery.Delivery.{Delivery}
use Rattle.dns_sockets.specs.Handler.{RequestContent, Handled, Noticed}
use Rattle.dns_sockets.specs.Trace.{Act, At, By, Nowhere, Socket}
use Rattle.dns_sockets.specs.World.{Received}

-- A request was handled at the datagram socket of an index, as one of several, and this is what is sent for it. It had arrived there before.
pub record IsHandled (socket : ℕ) (request : RequestContent) (delivery : Delivery) (acts : List Act) : Type 0 where
  pub before : List Act
  pub rest : List Act
  pub requests : List RequestContent
  pub deliveries : List Delivery
  pub place : ℕ
  pub acts_are : acts ≡ before ++ By (Socket socket) (Handled requests (Some deliveries)) ∷ rest
  pub request_is : slice_get requests place ≡ Some request
  pub delivery_is : slice_get deliveries place ≡ Some delivery
  pub arrived : Contains before (At (Received socket request.bytes request.peer))

-- A datagram is what a handler gave for a request that its peer had sent to the same socket, or what it gave without a request.
pub data IsGiven (socket : ℕ) (bytes : List ℕ) (peer : SocketAddr) (acts : List Act) : Type 0 where
  as_reply : (request : RequestContent) (delivery : Delivery) (reply : Vec ℕ) → IsHandled socket request delivery acts → request.peer ≡ peer
      → delivery.reply ≡ Some reply → reply.items ≡ bytes → IsGiven socket bytes peer acts
  as_notice : (now : ℕ) → Contains acts (By Nowhere (Noticed now (Some (record { peer = peer; bytes = bytes })))) → IsGiven socket bytes peer acts
