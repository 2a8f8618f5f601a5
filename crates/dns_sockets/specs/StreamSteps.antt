-- What a step of a connection does to it.
use Rattle.std.specs.Prelude.{◌≡◌, ◌≤◌, Bool, true, false, ℕ, List, [], ◌∷◌, ◌++◌, length, take, Option, Some, None, Result, Ok, Err}
use Rattle.std.specs.declared.io.Error.{Error}
use Rattle.std.specs.declared.net.socket_addr.SocketAddr.{SocketAddr}
use Rattle.dns_server.specs.Connection.{behind_frame, first_message, max_waiting_len}
use Rattle.dns_sockets.specs.Connections.{Connected, Follows, IsCallAllowed, MayHandle, Place, behind, call_after, closes_after, connection_of, held_bytes}
use Rattle.dns_sockets.specs.Handler.{HandlerEvent, RequestContent}
use Rattle.dns_sockets.specs.Trace.{Act}
use Rattle.dns_sockets.specs.declared.stream.HeldReply.{HeldReply}
use Rattle.dns_sockets.specs.declared.stream.Step.{Step}
use Rattle.dns_sockets.specs.declared.stream.Step.TheVariants as steps
use Rattle.dns_sockets.specs.declared.stream.Stream.{Stream}
use Rattle.dns_sockets.specs.declared.world.Progress.{Progress}
use Rattle.dns_sockets.specs.declared.world.Progress.TheVariants as progresses

-- ---- requests

-- messages are those of the first frames of bytes, and this is behind them
abbrev pub AreTaken : List ℕ → List (List ℕ) → List ℕ → Type 0
AreTaken bytes [] rest = bytes ≡ rest
AreTaken bytes (message ∷ more) rest = (first_message bytes ≡ Some message) × AreTaken (behind_frame bytes) more rest

-- calls, one after another, are allowed on a connection, and leave it like this
abbrev pub CallsFollow : Connected → List HandlerEvent → Connected → Type 0
CallsFollow old [] new = old ≡ new
CallsFollow old (call ∷ calls) new = IsCallAllowed old call × CallsFollow (call_after call old) calls new

-- the same, unless the connection is to be closed: then they are allowed
abbrev pub CallsLeave : Bool → Connected → List HandlerEvent → Connected → Type 0
CallsLeave true old calls new = (left : Connected) × CallsFollow old calls left
CallsLeave false old calls new = CallsFollow old calls new

-- a connection whose requests were handled, and whose replies are held
abbrev pub answered : List RequestContent → List HeldReply → Connected → Connected
answered requests held c = record c {
  unhandled = behind requests c.unhandled;
  unwritten = c.unwritten ++ held_bytes held;
  is_ending = closes_after held;
}

-- Requests are answered on each connection on which they may be handled: replies are held, or it is to be closed.
abbrev pub IsAnswered : Bool → List RequestContent → List HandlerEvent → List HeldReply → Type 0
IsAnswered fails requests calls held = (c : Connected) → MayHandle c requests → CallsLeave fails c calls (answered requests held c)

-- all but the replies that are held is as it was
pub record KeepsBytes (old new : Stream) : Type 0 where
  pub peer : new.peer ≡ old.peer
  pub input : new.connection.input ≡ old.connection.input
  pub output : new.output ≡ old.output
  pub is_closing : new.is_closing ≡ old.is_closing
  pub active : new.last_activity ≡ old.last_activity

-- all but what was read is as it was
pub record KeepsReplies (old new : Stream) : Type 0 where
  pub peer : new.peer ≡ old.peer
  pub held : new.held.items ≡ old.held.items
  pub output : new.output ≡ old.output
  pub is_closing : new.is_closing ≡ old.is_closing
  pub active : new.last_activity ≡ old.last_activity

-- ---- steps

-- whether a step ends the connection
abbrev pub ends : Step → Bool
ends steps.Moved = false
ends steps.Waits = false
ends steps.Closes = true

-- the same, unless it fails: then nothing was done
abbrev pub ends_if : Result Step Error → Bool
ends_if (Ok step) = ends step
ends_if (Err error) = false

-- whether a connection is to be closed, unless it fails
abbrev pub is_end : Result Bool Error → Bool
is_end (Ok closes) = closes
is_end (Err error) = false

-- a place with this connection
abbrev pub place : Option SocketAddr → Connected → Place
place accepted c = record { accepted = accepted; connection = Some c }

-- What happens on a connection is allowed, and leaves it like this, unless it is to be closed.
abbrev pub Leaves : Bool → ℕ → Connected → List Act → Connected → Type 0
Leaves true index old acts new = (accepted : Option SocketAddr) → (left : Connected) × Follows index (place accepted old) acts (place accepted left)
Leaves false index old acts new = (accepted : Option SocketAddr) → Follows index (place accepted old) acts (place accepted new)

-- a connection handles more: nothing is held, and there is room for replies
pub record IsReady (s : Stream) : Type 0 where
  pub is_open : s.is_closing ≡ false
  pub none_held : s.held.items ≡ []
  pub has_room : length s.output ≤ max_waiting_len

-- a connection that still holds a reply in front of those that it holds
abbrev pub released : HeldReply → Stream → Connected
released held s = record (connection_of s) {
  unwritten = s.output ++ held_bytes (held ∷ s.held.items);
  is_ending = closes_after
      (held ∷ s.held.items);
}

-- the bytes that were read into a buffer, if any were
abbrev pub bytes_read : Progress → List ℕ → Option (List ℕ)
bytes_read (progresses.Bytes count) buffer = Some (take count buffer)
bytes_read progresses.Interrupted buffer = None
bytes_read progresses.Nothing buffer = None
bytes_read progresses.Failed buffer = None

-- a connection is left as it was, unless it is to be closed
abbrev pub StaysUnless : Bool → Connected → Connected → Type 0
StaysUnless true old new = Unit {0}
StaysUnless false old new = new ≡ old
