-- What becomes of datagrams.
use Rattle.std.specs.Prelude.{◌≡◌, ◌⊎◌, ◌-◌, nat_le, not, length, map, slice_get, Bool, true, false, ℕ, List, [], ◌∷◌, ◌++◌, Option, Some, None, Result, Ok, Err}
use Rattle.std.specs.Global.{Vec}
use Rattle.std.specs.declared.io.Error.{Error}
use Rattle.std.specs.declared.net.socket_addr.SocketAddr.{SocketAddr}
use Rattle.dns_faults.specs.declared.delivery.Delivery.{Delivery}
use Rattle.dns_sockets.specs.declared.datagrams.Datagram.{Datagram}
use Rattle.dns_sockets.specs.declared.datagrams.WaitingReply.{WaitingReply}
use Rattle.dns_faults.specs.declared.rules.fault.Transport.TheVariants as Transport
use Rattle.dns_sockets.specs.Handler.{HandlerEvent, RequestContent, Handled, Took}
use Rattle.dns_sockets.specs.Notices.{is_response}
use Rattle.dns_sockets.specs.World.{WorldEvent, AreCopies, Clocked, Received, Unreceived}
use Rattle.dns_sockets.specs.Trace.{Act, At, By, Socket}
use Rattle.dns_sockets.specs.Stream.{later_by}
use Rattle.dns_sockets.specs.schedule.Schedule.{ScheduleContent, scheduled}

-- ---- replies

-- what waits of a reply to a peer
abbrev pub waiting_reply : ℕ → SocketAddr → Delivery → Vec ℕ → WaitingReply
waiting_reply index peer d bytes = record { socket = index; peer = peer; copies = d.copies; bytes = bytes }

-- a reply whose moment has come or not: it is sent at once, as often as the delivery says, or waits, or is lost, for want of room or of
-- memory
abbrev pub DeliversAt : Bool → ℕ → SocketAddr → ℕ → Delivery → Vec ℕ → ScheduleContent WaitingReply → List WorldEvent
    → ScheduleContent WaitingReply → Type 0
DeliversAt true index peer moment d bytes old es new = AreCopies index d.copies bytes.items peer es × (new ≡ old)
DeliversAt false index peer moment d bytes old es new = (es ≡ []) × ((new ≡ old) ⊎ (new ≡ scheduled old moment (waiting_reply index peer d bytes)))

-- the same of a reply, if there is one; else nothing is sent
abbrev pub DeliversReply : ℕ → SocketAddr → ℕ → Delivery → Option (Vec ℕ) → ScheduleContent WaitingReply → List WorldEvent
    → ScheduleContent WaitingReply → Type 0
DeliversReply index peer now d None old es new = (es ≡ []) × (new ≡ old)
DeliversReply index peer now d (Some bytes) old es new =
    DeliversAt (nat_le (later_by now d.after_milliseconds) now) index peer (later_by now d.after_milliseconds) d bytes old es new

-- what becomes of a delivery to a peer
abbrev pub Delivers : ℕ → SocketAddr → ℕ → Delivery → ScheduleContent WaitingReply → List WorldEvent → ScheduleContent WaitingReply → Type 0
Delivers index peer now d old es new = DeliversReply index peer now d d.reply old es new

-- the peer of a datagram
abbrev pub peer_of : Datagram → SocketAddr
peer_of datagram = datagram.peer

-- what becomes of deliveries to peers, one after another
abbrev pub DeliversAll : ℕ → ℕ → List SocketAddr → List Delivery → ScheduleContent WaitingReply → List WorldEvent
    → ScheduleContent WaitingReply → Type 0
DeliversAll index now [] ds old es new = (es ≡ []) × (new ≡ old)
DeliversAll index now (peer ∷ peers) [] old es new = (es ≡ []) × (new ≡ old)
DeliversAll index now (peer ∷ peers) (d ∷ ds) old es new =
    (first : List WorldEvent) × (rest : List WorldEvent) × (mid : ScheduleContent WaitingReply)
    × ((es ≡ first ++ rest) × (Delivers index peer now d old first mid × DeliversAll index now peers ds mid rest new))

-- what becomes of deliveries, if there are any
abbrev pub DeliversIf : ℕ → ℕ → List SocketAddr → Option (List Delivery) → ScheduleContent WaitingReply → List WorldEvent
    → ScheduleContent WaitingReply → Type 0
DeliversIf index now peers None old es new = (es ≡ []) × (new ≡ old)
DeliversIf index now peers (Some ds) old es new = DeliversAll index now peers ds old es new

-- replies that waited are sent, one after another
abbrev pub AreSent : List WaitingReply → List WorldEvent → Type 0
AreSent [] es = es ≡ []
AreSent (r ∷ rs) es = (first : List WorldEvent) × (rest : List WorldEvent) × ((es ≡ first ++ rest)
    × (AreCopies r.socket r.copies r.bytes.items r.peer first × AreSent rs rest))

-- ---- requests

-- whether no datagram may be handled together with a last one, by what is said of its bytes
abbrev pub completes : (List ℕ → Bool) → Option Datagram → Bool
completes gathers None = false
completes gathers (Some datagram) = not (gathers datagram.bytes.items)

-- the same of all that were gathered
abbrev pub is_complete : (List ℕ → Bool) → List Datagram → Bool
is_complete gathers datagrams = completes gathers (slice_get datagrams (length datagrams - 1))

-- bytes in a datagram from a peer at a moment, as a request
abbrev pub datagram_at : List ℕ → SocketAddr → ℕ → RequestContent
datagram_at bytes peer now = record { bytes = bytes; peer = peer; transport = Transport.Datagram; moment = now }

-- a datagram that arrived at a moment, as a request
abbrev pub content_at : ℕ → Datagram → RequestContent
content_at now datagram = datagram_at datagram.bytes.items datagram.peer now

-- datagrams that arrived together are handled
abbrev pub are_handled : ℕ → List Datagram → Option (List Delivery) → HandlerEvent
are_handled now gathered outcome = Handled (map (content_at now) gathered) outcome

-- the same, or nothing is done for want of memory
abbrev pub HandlesIf : ℕ → List Datagram → List HandlerEvent → Option (List Delivery) → Type 0
HandlesIf now gathered events outcome = (events ≡ are_handled now gathered outcome ∷ []) ⊎ ((events ≡ []) × (outcome ≡ None))

-- Acts of a handler and then of the world, once the clock shows a moment: datagrams that arrived at a socket are handled, and their replies
-- are sent. Where the clock fails, they are lost.
abbrev pub HandlesAt : Option ℕ → ℕ → List Datagram → ScheduleContent WaitingReply → List Act → ScheduleContent WaitingReply → Type 0
HandlesAt None index gathered old acts new = (acts ≡ []) × (new ≡ old)
HandlesAt (Some now) index gathered old acts new =
    (outcome : Option (List Delivery)) × (calls : List HandlerEvent) × (sent : List WorldEvent)
    × ((acts ≡ map (By (Socket index)) calls ++ map At sent) × (HandlesIf now gathered calls outcome
    × DeliversIf index now (map peer_of gathered) outcome old sent new))

-- the clock is read, and then the datagrams are handled, if there are any
abbrev pub Handles : ℕ → List Datagram → ScheduleContent WaitingReply → List Act → ScheduleContent WaitingReply → Type 0
Handles index gathered old acts new =
    ((acts ≡ []) × ((gathered ≡ []) × (new ≡ old)))
    ⊎ ((shown : Option ℕ) × (rest : List Act) × ((acts ≡ At (Clocked shown) ∷ rest) × HandlesAt shown index gathered old rest new))

-- what a datagram is, wherever its bytes are
abbrev pub datagram_content : Datagram → SocketAddr × List ℕ
datagram_content datagram = (datagram.peer, datagram.bytes.items)

-- a datagram is added to those that are handled together, or lost for want of memory
abbrev pub IsAddedOrLost : SocketAddr → List ℕ → List Datagram → List Datagram → Type 0
IsAddedOrLost peer bytes old new = (new ≡ old) ⊎ (map datagram_content new ≡ map datagram_content old ++ (peer, bytes) ∷ [])

-- the same unless it is taken as a response that was expected, or the clock fails
abbrev pub GathersIf : Option Bool → SocketAddr → List ℕ → List Datagram → List Datagram → Type 0
GathersIf None peer bytes old new = new ≡ old
GathersIf (Some true) peer bytes old new = new ≡ old
GathersIf (Some false) peer bytes old new = IsAddedOrLost peer bytes old new

-- whether a datagram is taken as a response that was expected, unless the clock fails
abbrev pub taken_if : Result Bool Error → Option Bool
taken_if (Ok is_taken) = Some is_taken
taken_if (Err error) = None

-- the clock is read, and then a datagram is taken by the handler as a response that was expected, or not
abbrev pub Takes : List ℕ → SocketAddr → List WorldEvent → List HandlerEvent → Option Bool → Type 0
Takes bytes peer clocks calls None = (clocks ≡ Clocked None ∷ []) × (calls ≡ [])
Takes bytes peer clocks calls (Some is_taken) =
    (now : ℕ) × ((clocks ≡ Clocked (Some now) ∷ []) × (calls ≡ Took (datagram_at bytes peer now) is_taken ∷ []))

-- the same of one that begins as a response does; another is not taken
abbrev pub TakesIf : Bool → List ℕ → SocketAddr → List WorldEvent → List HandlerEvent → Option Bool → Type 0
TakesIf true bytes peer clocks calls taken = Takes bytes peer clocks calls taken
TakesIf false bytes peer clocks calls taken = (clocks ≡ []) × ((calls ≡ []) × (taken ≡ Some false))

-- what becomes of a datagram that was received
abbrev pub Gathers : List ℕ → SocketAddr → List Datagram → List WorldEvent → List HandlerEvent → List Datagram → Type 0
Gathers bytes peer old clocks calls new =
    (taken : Option Bool) × (TakesIf (is_response bytes) bytes peer clocks calls taken × GathersIf taken peer bytes old new)

-- what becomes of a receive: a datagram is gathered, or there is none
abbrev pub ReceivesBy : WorldEvent → List Datagram → List WorldEvent → List HandlerEvent → List Datagram → Type 0
ReceivesBy (Received index bytes peer) old clocks calls new = Gathers bytes peer old clocks calls new
ReceivesBy event old clocks calls new = (clocks ≡ []) × ((calls ≡ []) × (new ≡ old))

-- a receive at a socket
abbrev pub IsReceive : ℕ → WorldEvent → Type 0
IsReceive index (Received socket bytes peer) = socket ≡ index
IsReceive index (Unreceived socket) = socket ≡ index
IsReceive index event = ⊥

-- acts of the world and then of a handler: a receive at a socket, and what becomes of it
abbrev pub Receives : ℕ → List Datagram → List Act → List Datagram → Type 0
Receives index old acts new =
    (event : WorldEvent) × (clocks : List WorldEvent) × (calls : List HandlerEvent)
    × ((acts ≡ At event ∷ map At clocks ++ map (By (Socket index)) calls) × (IsReceive index event × ReceivesBy event old clocks calls new))

-- ---- turns

-- a step of a turn, and its acts: a receive, or the datagrams that were gathered are handled
pub data TurnStep : Type 0 where
  Receive : List Act → TurnStep
  Handle : List Act → TurnStep

-- Steps of a turn, one after another: each receive adds to the datagrams that are gathered, and all of these are handled together.
abbrev pub AreSteps : ℕ → List TurnStep → List Datagram → ScheduleContent WaitingReply → List Act → List Datagram
    → ScheduleContent WaitingReply → Type 0
AreSteps index [] old waiting acts new left = (acts ≡ []) × ((new ≡ old) × (left ≡ waiting))
AreSteps index (Receive first ∷ steps) old waiting acts new left =
    (gathered : List Datagram) × (rest : List Act)
    × ((acts ≡ first ++ rest) × (Receives index old first gathered × AreSteps index steps gathered waiting rest new left))
AreSteps index (Handle first ∷ steps) old waiting acts new left =
    (held : ScheduleContent WaitingReply) × (rest : List Act)
    × ((acts ≡ first ++ rest) × (Handles index old waiting first held × AreSteps index steps [] held rest new left))

-- the same for some steps
abbrev pub IsTurn : ℕ → List Datagram → ScheduleContent WaitingReply → List Datagram → ScheduleContent WaitingReply → List Act → Type 0
IsTurn index old waiting new left acts = (steps : List TurnStep) × AreSteps index steps old waiting acts new left

-- a turn at whose beginning no datagram is gathered, and none at its end, unless it fails
abbrev pub IsTurnUnless : Bool → ℕ → ScheduleContent WaitingReply → ScheduleContent WaitingReply → List Act → Type 0
IsTurnUnless true index waiting left acts = (lost : List Datagram) × IsTurn index [] waiting lost left acts
IsTurnUnless false index waiting left acts = IsTurn index [] waiting [] left acts
