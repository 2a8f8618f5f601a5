-- What the datagrams that a service sends are paid with: each request that is handled had arrived, and each reply is earned by a request
-- that was handled, and sent no more often than its delivery says.
use Rattle.std.specs.Prelude.{◌+◌, ◌-◌, ◌*◌, ◌≤◌, ⊤, true, false, ℕ, List, [], ◌∷◌, Option, Some, None}
use Rattle.std.specs.Global.{Vec}
use Rattle.std.specs.declared.net.socket_addr.SocketAddr.{SocketAddr}
use Rattle.dns_faults.specs.declared.delivery.Delivery.{Delivery}
use Rattle.dns_sockets.specs.Handler.{HandlerEvent, RequestContent, Handled, Noticed, Took, Transferred}
use Rattle.dns_sockets.specs.Trace.{Act, At, By, Socket, Connection, Nowhere}
use Rattle.dns_sockets.specs.World.{WorldEvent, Received, Sent}
use Rattle.dns_sockets.specs.declared.datagrams.WaitingReply.{WaitingReply}
use Rattle.dns_sockets.specs.schedule.Schedule.{Waiting}

-- what each act costs, and what it brings
pub record Book : Type 0 where
  pub cost : Act → ℕ
  pub gain : Act → ℕ

-- Each act is paid with what is there and what the acts before it brought.
abbrev pub AllPaid : Book → ℕ → List Act → Type 0
AllPaid b credit [] = ⊤
AllPaid b credit (act ∷ acts) = (b.cost act ≤ credit) × AllPaid b (credit - b.cost act + b.gain act) acts

-- what is left
abbrev pub left_of : Book → ℕ → List Act → ℕ
left_of b credit [] = credit
left_of b credit (act ∷ acts) = left_of b (credit - b.cost act + b.gain act) acts

-- What a datagram counts that is sent to a peer from the socket of an index, and what one counts at most from any socket. With 1 for a
-- datagram and 0 for all others, it is counted how often this one is sent.
pub record Weight : Type 0 where
  pub of : ℕ → SocketAddr → List ℕ → ℕ
  pub most : SocketAddr → List ℕ → ℕ
  pub bounded : (socket : ℕ) (peer : SocketAddr) (bytes : List ℕ) → of socket peer bytes ≤ most peer bytes

-- what an event costs: a datagram that the system takes
abbrev pub event_cost : Weight → WorldEvent → ℕ
event_cost f (Sent socket bytes peer true) = f.of socket peer bytes
event_cost f (Sent socket bytes peer false) = 0
event_cost f event = 0

-- what an act costs
abbrev pub cost : Weight → Act → ℕ
cost f (At event) = event_cost f event
cost f (By origin event) = 0

-- what a reply to a peer brings: as much as all of its copies cost
abbrev pub reply_worth : Weight → ℕ → SocketAddr → Delivery → Option (Vec ℕ) → ℕ
reply_worth f socket peer d None = 0
reply_worth f socket peer d (Some bytes) = d.copies * f.of socket peer bytes.items

-- what deliveries to the peers of requests bring, each to the peer of its request
abbrev pub deliveries_worth : Weight → ℕ → List RequestContent → List Delivery → ℕ
deliveries_worth f socket [] ds = 0
deliveries_worth f socket (r ∷ rs) [] = 0
deliveries_worth f socket (r ∷ rs) (d ∷ ds) = reply_worth f socket r.peer d d.reply + deliveries_worth f socket rs ds

-- what requests bring that arrived at the socket of an index and were handled
abbrev pub socket_gain : Weight → ℕ → HandlerEvent → ℕ
socket_gain f socket (Handled requests (Some ds)) = deliveries_worth f socket requests ds
socket_gain f socket (Handled requests None) = 0
socket_gain f socket (Transferred request is_busy messages) = 0
socket_gain f socket (Took request is_taken) = 0
socket_gain f socket (Noticed now notice) = 0

-- what a datagram brings that is due without a request: as much as it costs from any socket
abbrev pub notice_gain : Weight → HandlerEvent → ℕ
notice_gain f (Noticed now (Some notice)) = f.most notice.peer notice.bytes
notice_gain f (Noticed now None) = 0
notice_gain f (Handled requests outcome) = 0
notice_gain f (Transferred request is_busy messages) = 0
notice_gain f (Took request is_taken) = 0

-- what an act brings
abbrev pub gain : Weight → Act → ℕ
gain f (At event) = 0
gain f (By (Socket socket) event) = socket_gain f socket event
gain f (By (Connection stream) event) = 0
gain f (By Nowhere event) = notice_gain f event

-- how replies are counted
abbrev pub replies : Weight → Book
replies f = record { cost = cost f; gain = gain f }

-- what requests count that arrived at the socket of an index
abbrev pub requests_worth : (SocketAddr → List ℕ → ℕ) → List RequestContent → ℕ
requests_worth g [] = 0
requests_worth g (r ∷ rs) = g r.peer r.bytes + requests_worth g rs

-- what an act costs that handles requests
abbrev pub handled_cost : (ℕ → SocketAddr → List ℕ → ℕ) → Act → ℕ
handled_cost g (By (Socket socket) (Handled requests outcome)) = requests_worth (g socket) requests
handled_cost g act = 0

-- what a datagram brings that arrives
abbrev pub arrived_gain : (ℕ → SocketAddr → List ℕ → ℕ) → Act → ℕ
arrived_gain g (At (Received socket bytes peer)) = g socket peer bytes
arrived_gain g act = 0

-- how requests are counted, by what each counts that arrives at the socket of an index
abbrev pub requests : (ℕ → SocketAddr → List ℕ → ℕ) → Book
requests g = record { cost = handled_cost g; gain = arrived_gain g }

-- what replies are worth that wait
abbrev pub waiting_worth : Weight → List (Waiting WaitingReply) → ℕ
waiting_worth f [] = 0
waiting_worth f (w ∷ ws) = w.item.copies * f.of w.item.socket w.item.peer w.item.bytes.items + waiting_worth f ws

-- Where replies waited, and others wait after these acts: all acts are paid, and what waits then is paid, too.
abbrev pub EarnsReplies : List (Waiting WaitingReply) → List (Waiting WaitingReply) → List Act → Type 0
EarnsReplies old new acts =
    (f : Weight) (credit : ℕ) → waiting_worth f old ≤ credit → AllPaid (replies f) credit acts
    × (waiting_worth f new ≤ left_of (replies f) credit acts)

-- requests are handled that arrived, each at most once
abbrev pub HandlesArrived : List Act → Type 0
HandlesArrived acts = (g : ℕ → SocketAddr → List ℕ → ℕ) (credit : ℕ) → AllPaid (requests g) credit acts × (credit ≤ left_of (requests g) credit acts)

-- both
abbrev pub Earns : List (Waiting WaitingReply) → List (Waiting WaitingReply) → List Act → Type 0
Earns old new acts = EarnsReplies old new acts × HandlesArrived acts
