-- The replies that a connection holds until their moments, and when it has something to do.
use Rattle.std.specs.Prelude.{◌≡◌, ◌⊎◌, ◌||◌, ◌+◌, ◌-◌, ◌^◌, min, nat_lt, if◌then◌else◌, ℕ, Bool, true, false, List, [], ◌∷◌, length, map, Option, Some, None}
use Rattle.std.specs.Global.{Vec}
use Rattle.dns_faults.specs.declared.delivery.Delivery.{Delivery}
use Rattle.std.specs.declared.net.socket_addr.SocketAddr.{SocketAddr}
use Rattle.dns_faults.specs.declared.rules.fault.Transport.TheVariants as Transport
use Rattle.dns_sockets.specs.Handler.{Handled, HandlerEvent, RequestContent, Transferred}
use Rattle.dns_sockets.specs.declared.stream.HeldReply.{HeldReply}
use Rattle.dns_sockets.specs.declared.stream.Stream.{Stream}

-- a moment and so many milliseconds, but for the greatest moment
abbrev pub later_by : ℕ → ℕ → ℕ
later_by moment milliseconds = min (moment + milliseconds) (2 ^ 64 - 1)

-- what is held of a reply that was handled at a moment
abbrev pub held_reply : ℕ → Delivery → HeldReply
held_reply now d = record { moment = later_by now d.after_milliseconds; reply = d.reply; close_after = d.close_after }

-- what is held of a message of a reply that has several
abbrev pub held_message : ℕ → Vec ℕ → HeldReply
held_message now message = record { moment = now; reply = Some message; close_after = None }

-- the moment of the first reply that is held, unless so much waits to be written that none may be added, or else another moment
abbrev pub first_moment : ℕ → Bool → List HeldReply → ℕ
first_moment other is_full [] = other
first_moment other is_full (held ∷ more) = if is_full then other else held.moment

-- When a connection has something to do without its peer: at once, once its first held reply is due, or when it has been idle for
-- ten seconds.
abbrev pub deadline : Stream → ℕ
deadline s =
    if s.wants_turn then 0
    else first_moment (later_by s.last_activity 10000) (nat_lt 65537 (length s.output)) s.held.items

-- a connection from a peer that was accepted at a moment: its socket may be readable and writable, and nothing was read or is to be written
pub record IsNew (peer : SocketAddr) (now : ℕ) (s : Stream) : Type 0 where
  pub peer_is : s.peer ≡ peer
  pub active : s.last_activity ≡ now
  pub input : s.connection.input ≡ []
  pub held : s.held.items ≡ []
  pub output : s.output ≡ []
  pub open_is : (s.is_closing ≡ false) × (s.has_ended ≡ false)
  pub ready : (s.readiness.read ≡ true) × (s.readiness.write ≡ true)
  pub goes_on : (s.wants_turn ≡ true) × (s.is_transferring ≡ false)

-- a connection once the system says what its socket is ready for: it goes on at once
abbrev pub noted : Bool → Bool → Stream → Stream
noted is_readable is_writable s = record s {
  readiness = record { read = s.readiness.read || is_readable; write = s.readiness.write || is_writable };
  wants_turn = true;
}

-- ---- requests

-- a message that arrived over a stream from a peer at a moment, as a request
abbrev pub stream_request : SocketAddr → ℕ → List ℕ → RequestContent
stream_request peer now bytes = record { bytes = bytes; peer = peer; transport = Transport.Stream; moment = now }

-- requests are handled together
abbrev pub AreHandled : List RequestContent → List HandlerEvent → Type 0
AreHandled requests calls = (outcome : Option (List Delivery)) × (calls ≡ Handled requests outcome ∷ [])

-- a request that has no reply of several messages is handled
abbrev pub IsHandledUnless : RequestContent → Option (Option (List (List ℕ))) → List HandlerEvent → Type 0
IsHandledUnless request None calls = calls ≡ []
IsHandledUnless request (Some (Some messages)) calls = calls ≡ []
IsHandledUnless request (Some None) calls = AreHandled (request ∷ []) calls

-- requests that arrived together are answered: a single one may have a reply of several messages
abbrev pub AreAnswered : Bool → List RequestContent → List HandlerEvent → Type 0
AreAnswered is_busy [] calls = AreHandled [] calls
AreAnswered is_busy (request ∷ []) calls =
    (messages : Option (Option (List (List ℕ)))) × (rest : List HandlerEvent) × ((calls ≡ Transferred request is_busy messages ∷ rest)
    × IsHandledUnless request messages rest)
AreAnswered is_busy (request ∷ next ∷ more) calls = AreHandled (request ∷ next ∷ more) calls

-- messages that arrived over a stream are answered, or nothing is done for want of memory
abbrev pub Answers : Bool → SocketAddr → ℕ → List HandlerEvent → Type 0
Answers is_busy peer now calls = (calls ≡ []) ⊎ ((messages : List (List ℕ)) × AreAnswered is_busy (map (stream_request peer now) messages) calls)

-- the same at the moment that a clock shows, or nothing where it fails
abbrev pub AnswersAt : Option ℕ → Bool → SocketAddr → List HandlerEvent → Type 0
AnswersAt None is_busy peer calls = calls ≡ []
AnswersAt (Some now) is_busy peer calls = Answers is_busy peer now calls
