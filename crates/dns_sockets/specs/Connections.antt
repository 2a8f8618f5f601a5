-- What may happen on the connections of a service. Requests are handled in the order in which they arrived, replies are written in the order
-- of their requests, and nothing more is handled for a peer that does not read its replies (RFC 7766 sections 6.2 and 7).
use Rattle.std.specs.Prelude.{◌≡◌, ◌+◌, ◌≤◌, ◌==◌, ◌||◌, Bool, true, false, is_some, IsSome, IsSomeAnd, ℕ, List, [], ◌∷◌, ◌++◌, length, take, drop, option_map, slice_get, ⊤, Option, Some, None}
use Rattle.std.specs.Global.{Vec}
use Rattle.std.specs.declared.net.socket_addr.SocketAddr.{SocketAddr}
use Rattle.dns_faults.specs.declared.delivery.Delivery.{Delivery}
use Rattle.dns_faults.specs.declared.rules.fault.Transport.TheVariants as Transport
use Rattle.dns_server.specs.Connection.{behind_frame, first_message, max_input_len, max_waiting_len}
use Rattle.dns_sockets.specs.Handler.{HandlerEvent, RequestContent, Handled, Transferred}
use Rattle.dns_sockets.specs.Output.{added}
use Rattle.dns_sockets.specs.Trace.{Act, At, By, Connection}
use Rattle.dns_sockets.specs.World.{WorldEvent, Accepted, Admitted, Closed, Read, Written}
use Rattle.dns_sockets.specs.declared.stream.HeldReply.{HeldReply}
use Rattle.dns_sockets.specs.declared.stream.Stream.{Stream}

-- A connection: its peer, what was read from it and is not handled yet, what is still to be written on it, and whether it is closed after
-- that.
pub record Connected : Type 0 where
  pub peer : SocketAddr
  pub unhandled : List ℕ
  pub unwritten : List ℕ
  pub is_ending : Bool

-- a connection from a peer, at first
abbrev pub connected : SocketAddr → Connected
connected peer = record { peer = peer; unhandled = []; unwritten = []; is_ending = false }

-- ---- replies

-- what is written of a reply, if there is one: its frame, or the front of it
abbrev pub reply_bytes : Option ℕ → Option (Vec ℕ) → List ℕ
reply_bytes most None = []
reply_bytes most (Some reply) = added most reply.items

-- what follows a reply, unless the connection is closed after so many bytes of it
abbrev pub unless_closed : Option ℕ → List ℕ → List ℕ
unless_closed None more = more
unless_closed (Some most) more = []

-- what is written of replies, one after another
abbrev pub delivered : List Delivery → List ℕ
delivered [] = []
delivered (d ∷ ds) = reply_bytes d.close_after d.reply ++ unless_closed d.close_after (delivered ds)

-- whether the connection is closed after one of them
abbrev pub closes : List Delivery → Bool
closes [] = false
closes (d ∷ ds) = is_some d.close_after || closes ds

-- what is written of the messages of a reply
abbrev pub transferred : List (List ℕ) → List ℕ
transferred [] = []
transferred (message ∷ more) = added None message ++ transferred more

-- ---- requests

-- The messages of requests are those of the first frames of bytes, and came from a peer over a stream.
abbrev pub AreNext : SocketAddr → List ℕ → List RequestContent → Type 0
AreNext peer bytes [] = ⊤
AreNext peer bytes (r ∷ rs) =
    (first_message bytes ≡ Some r.bytes) × ((r.peer ≡ peer) × ((r.transport ≡ Transport.Stream) × AreNext peer (behind_frame bytes) rs))

-- what is behind the frames of requests
abbrev pub behind : List RequestContent → List ℕ → List ℕ
behind [] bytes = bytes
behind (r ∷ rs) bytes = behind rs (behind_frame bytes)

-- Requests may be handled: they are the next ones, and no more waits to be written than the longest frame has.
abbrev pub MayHandle : Connected → List RequestContent → Type 0
MayHandle c requests = (c.is_ending ≡ false) × ((length c.unwritten ≤ max_waiting_len) × AreNext c.peer c.unhandled requests)

-- what the handler may be called for
abbrev pub IsCallAllowed : Connected → HandlerEvent → Type 0
IsCallAllowed c (Handled requests outcome) = MayHandle c requests
IsCallAllowed c (Transferred request is_busy outcome) = MayHandle c (request ∷ [])
IsCallAllowed c call = ⊥

-- A connection after a call of the handler. Where memory is refused, it is closed; a request that is not for a transfer is still to be
-- handled.
abbrev pub call_after : HandlerEvent → Connected → Connected
call_after (Handled requests (Some ds)) c = record c {
  unhandled = behind requests c.unhandled;
  unwritten = c.unwritten ++ delivered ds;
  is_ending = closes ds;
}
call_after (Transferred request is_busy (Some (Some messages))) c = record c {
  unhandled = behind_frame c.unhandled;
  unwritten = c.unwritten ++ transferred messages;
}
call_after (Transferred request is_busy (Some None)) c = c
call_after call c = record c { is_ending = true }

-- ---- bytes

-- bytes may be read: there is room for them, and something will be handled
abbrev pub IsReadAllowed : Connected → Option (List ℕ) → Type 0
IsReadAllowed c None = c.is_ending ≡ false
IsReadAllowed c (Some bytes) = (c.is_ending ≡ false) × (length c.unhandled + length bytes ≤ max_input_len)

-- a connection after a read
abbrev pub read_after : Option (List ℕ) → Connected → Connected
read_after None c = c
read_after (Some bytes) c = record c { unhandled = c.unhandled ++ bytes }

-- bytes may be written: the first of those that are to be
abbrev pub IsWriteAllowed : Connected → List ℕ → Type 0
IsWriteAllowed c bytes = bytes ≡ take (length bytes) c.unwritten

-- a connection after a write
abbrev pub written_after : List ℕ → Connected → Connected
written_after bytes c = record c { unwritten = drop (length bytes) c.unwritten }

-- ---- one index

-- The connection of an index, if there is one, and the peer that was accepted last, until its connection has an index.
pub record Place : Type 0 where
  pub accepted : Option SocketAddr
  pub connection : Option Connected

-- a place without a connection, or with that of the peer that was accepted, if it is admitted here
abbrev pub admitted : Bool → Bool → Place → Option Connected
admitted true true p = option_map connected p.accepted
admitted here is_admitted p = p.connection

-- a place whose connection is closed, if it is this one
abbrev pub closed : Bool → Option Connected → Option Connected
closed true connection = None
closed false connection = connection

-- a place with its connection changed, if it is this one
abbrev pub changed : Bool → (Connected → Connected) → Place → Place
changed true change p = record p { connection = option_map change p.connection }
changed false change p = p

-- the place of an index after an event
abbrev pub event_after : ℕ → WorldEvent → Place → Place
event_after index (Accepted listener peer) p = record p { accepted = peer }
event_after index (Admitted stream is_admitted) p = record { accepted = None; connection = admitted (stream == index) is_admitted p }
event_after index (Closed stream) p = record p { connection = closed (stream == index) p.connection }
event_after index (Read stream bytes) p = changed (stream == index) (read_after bytes) p
event_after index (Written stream bytes) p = changed (stream == index) (written_after bytes) p
event_after index event p = p

-- An event is allowed at the place of an index. A connection is admitted that was accepted, where there is none.
abbrev pub IsEventAllowed : ℕ → Place → WorldEvent → Type 0
IsEventAllowed index p (Admitted stream is_admitted) = IsSome p.accepted × (stream ≡ index → p.connection ≡ None)
IsEventAllowed index p (Read stream bytes) = stream ≡ index → IsSomeAnd p.connection (λ c. IsReadAllowed c bytes)
IsEventAllowed index p (Written stream bytes) = stream ≡ index → IsSomeAnd p.connection (λ c. IsWriteAllowed c bytes)
IsEventAllowed index p event = ⊤

-- the place of an index after an act
abbrev pub act_after : ℕ → Act → Place → Place
act_after index (At event) p = event_after index event p
act_after index (By (Connection stream) call) p = changed (stream == index) (call_after call) p
act_after index (By origin call) p = p

-- an act is allowed at the place of an index
abbrev pub IsActAllowed : ℕ → Place → Act → Type 0
IsActAllowed index p (At event) = IsEventAllowed index p event
IsActAllowed index p (By (Connection stream) call) = stream ≡ index → IsSomeAnd p.connection (λ c. IsCallAllowed c call)
IsActAllowed index p (By origin call) = ⊤

-- acts, one after another, are allowed at the place of an index, and leave it like this
abbrev pub Follows : ℕ → Place → List Act → Place → Type 0
Follows index old [] new = old ≡ new
Follows index old (act ∷ acts) new = IsActAllowed index old act × Follows index (act_after index act old) acts new

-- ---- all of them

-- what waits of replies that are held, up to one that closes the connection
abbrev pub held_bytes : List HeldReply → List ℕ
held_bytes [] = []
held_bytes (held ∷ more) = reply_bytes held.close_after held.reply ++ unless_closed held.close_after (held_bytes more)

-- the same, and nothing where the connection is closing already
abbrev pub waiting_bytes : Bool → List HeldReply → List ℕ
waiting_bytes true held = []
waiting_bytes false held = held_bytes held

-- whether the connection is closed after one of them
abbrev pub closes_after : List HeldReply → Bool
closes_after [] = false
closes_after (held ∷ more) = is_some held.close_after || closes_after more

-- what is known of a stream
abbrev pub connection_of : Stream → Connected
connection_of s = record {
  peer = s.peer;
  unhandled = s.connection.input;
  unwritten = s.output ++ waiting_bytes s.is_closing s.held.items;
  is_ending = s.is_closing || closes_after s.held.items;
}

-- the connection at a place of a table
abbrev pub connection_in : Option (Option Stream) → Option Connected
connection_in (Some (Some stream)) = Some (connection_of stream)
connection_in slot = None

-- the same for an index
abbrev pub connection_at : List (Option Stream) → ℕ → Option Connected
connection_at slots index = connection_in (slice_get slots index)

-- the place of an index in a table
abbrev pub place_in : List (Option Stream) → ℕ → Option SocketAddr → Place
place_in slots index accepted = record { accepted = accepted; connection = connection_at slots index }

-- Whatever the index, and whichever peer was accepted last: what happens on its connection is allowed, and the table has what is left.
abbrev pub AreFollowed : List (Option Stream) → List (Option Stream) → List Act → Type 0
AreFollowed old new acts =
    (index : ℕ) (accepted : Option SocketAddr) → (left : Option SocketAddr)
    × Follows index (place_in old index accepted) acts (place_in new index left)

-- the same where no connection is accepted or admitted
abbrev pub AreFollowedAside : List (Option Stream) → List (Option Stream) → List Act → Type 0
AreFollowedAside old new acts = (index : ℕ) (accepted : Option SocketAddr)
    → Follows index (place_in old index accepted) acts (place_in new index accepted)

-- the same once a peer was accepted
abbrev pub IsAdmitted : SocketAddr → List (Option Stream) → List (Option Stream) → List Act → Type 0
IsAdmitted peer old new acts = (index : ℕ) → (left : Option SocketAddr)
    × Follows index (place_in old index (Some peer)) acts (place_in new index left)

-- no connection is changed
abbrev pub AreKept : List (Option Stream) → List (Option Stream) → Type 0
AreKept old new = (index : ℕ) → connection_at new index ≡ connection_at old index
