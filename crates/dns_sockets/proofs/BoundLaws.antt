-- How many bytes are held of a peer's requests, and how long a service waits for it.
use Rattle.std.proofs.Common.{◌≡◌, ◌<◌, ◌≤◌, ◌==◌, inl, inr, Bool, true, false, ℕ, zero, suc, List, [], ◌∷◌, length, Option, Some, None, option_map, refl, subst, arith}
use Rattle.std.specs.Prelude.{IfSome, IsSomeAnd, min, slice_get}
use Rattle.std.specs.declared.net.socket_addr.SocketAddr.{SocketAddr}
use Rattle.std.proofs.lemmas.Bool.Decides.{nat_tests}
use Rattle.std.proofs.lemmas.List.{length-append, length-drop}
use Rattle.dns_message_bytes.specs.frames.Frame.{frame_len}
use Rattle.dns_server.specs.Connection.{behind_frame, max_input_len}
use Rattle.dns_sockets.specs.Connections.{Connected, Follows, IsActAllowed, IsEventAllowed, IsReadAllowed, Place, act_after, admitted, behind, call_after, changed, closed, connected, event_after, read_after, written_after}
use Rattle.dns_sockets.specs.Deadlines.{earliest, service_deadline, slot_deadline}
use Rattle.dns_sockets.specs.Handler.{HandlerEvent, RequestContent, Handled, Noticed, Took, Transferred}
use Rattle.dns_sockets.specs.Notices.{sooner}
use Rattle.dns_sockets.specs.Rotation.{HasGoneOn, IsAsActive}
use Rattle.dns_sockets.specs.Stream.{deadline, later_by}
use Rattle.dns_sockets.specs.Trace.{Act, At, By, Connection, Nowhere, Socket}
use Rattle.dns_sockets.specs.World.{WorldEvent, Accepted, Admitted, Clocked, Closed, Read, Received, Sent, Unreceived, Waited, Woken, Written}
use Rattle.dns_sockets.specs.Deadlines.{listener_deadline, socket_deadline}
use Rattle.dns_sockets.specs.schedule.Schedule.{first_moment}
use Rattle.dns_sockets.specs.declared.service.Service.{Service}
use Rattle.dns_sockets.specs.declared.stream.Stream.{Stream}

-- no more bytes are held than the longest frame has
abbrev pub IsBounded : Option Connected → Type 0
IsBounded connection = IfSome connection (λ c. length c.unhandled ≤ max_input_len)

behind_less : (rs : List RequestContent) (bytes : List ℕ) → length (behind rs bytes) ≤ length bytes
behind_less [] bytes = omega arith
behind_less (r ∷ rs) bytes =
    let more = behind_less rs (behind_frame bytes) in
    let one = length-drop (frame_len bytes) bytes in
    omega (arith, more, one)

call_bounded : (call : HandlerEvent) (c : Connected) → length c.unhandled ≤ max_input_len → length (call_after call c).unhandled ≤ max_input_len
call_bounded (Handled requests (Some ds)) c within = let less = behind_less requests c.unhandled in omega (arith, less, within)
call_bounded (Handled requests None) c within = within
call_bounded (Transferred request is_busy (Some (Some messages))) c within = let less = length-drop (frame_len c.unhandled) c.unhandled in omega (arith, less, within)
call_bounded (Transferred request is_busy (Some None)) c within = within
call_bounded (Transferred request is_busy None) c within = within
call_bounded (Took request is_taken) c within = within
call_bounded (Noticed now notice) c within = within

changed_bounded : (b : Bool) (change : Connected → Connected) (p : Place)
    → ((c : Connected) → length c.unhandled ≤ max_input_len → length (change c).unhandled ≤ max_input_len) → IsBounded p.connection → IsBounded (changed b change p).connection
changed_bounded false change p keeps bounded = bounded
changed_bounded true change p keeps bounded = by p.connection bounded
  where
    by : (o : Option Connected) → IsBounded o → IsBounded (option_map change o)
    by None bounded = tt
    by (Some c) bounded = keeps c bounded

read_bounded : (b : Bool) (bytes : Option (List ℕ)) (p : Place) → (b ≡ true → IsSomeAnd p.connection (λ c. IsReadAllowed c bytes)) → IsBounded p.connection
    → IsBounded (changed b (read_after bytes) p).connection
read_bounded false bytes p allowed bounded = bounded
read_bounded true None p allowed bounded = changed_bounded true (read_after None) p (λ c within. within) bounded
read_bounded true (Some bytes) p allowed bounded = by p.connection (allowed refl)
  where
    by : (o : Option Connected) → IsSomeAnd o (λ c. IsReadAllowed c (Some bytes)) → IsBounded (option_map (read_after (Some bytes)) o)
    by None allowed = tt
    by (Some c) allowed = let room = allowed.1 in let both = length-append c.unhandled bytes in omega (arith, room, both)

admitted_bounded : (here is_admitted : Bool) (p : Place) → IsBounded p.connection → IsBounded (admitted here is_admitted p)
admitted_bounded true true p bounded = by p.accepted
  where
    by : (o : Option SocketAddr) → IsBounded (option_map connected o)
    by None = tt
    by (Some peer) = omega arith
admitted_bounded true false p bounded = bounded
admitted_bounded false is_admitted p bounded = bounded

closed_bounded : (here : Bool) (connection : Option Connected) → IsBounded connection → IsBounded (closed here connection)
closed_bounded true connection bounded = tt
closed_bounded false connection bounded = bounded

event_bounded : (index : ℕ) (event : WorldEvent) (p : Place) → IsEventAllowed index p event → IsBounded p.connection → IsBounded (event_after index event p).connection
event_bounded index (Received socket bytes peer) p allowed bounded = bounded
event_bounded index (Unreceived socket) p allowed bounded = bounded
event_bounded index (Sent socket bytes peer is_taken) p allowed bounded = bounded
event_bounded index (Accepted listener peer) p allowed bounded = bounded
event_bounded index (Admitted stream is_admitted) p allowed bounded = admitted_bounded (stream == index) is_admitted p bounded
event_bounded index (Closed stream) p allowed bounded = closed_bounded (stream == index) p.connection bounded
event_bounded index (Read stream bytes) p allowed bounded = read_bounded (stream == index) bytes p (λ is. allowed (grind (arith, nat_tests))) bounded
event_bounded index (Written stream bytes) p allowed bounded = changed_bounded (stream == index) (written_after bytes) p (λ c within. within) bounded
event_bounded index (Clocked moment) p allowed bounded = bounded
event_bounded index (Waited most) p allowed bounded = bounded
event_bounded index (Woken wake) p allowed bounded = bounded

act_bounded : (index : ℕ) (act : Act) (p : Place) → IsActAllowed index p act → IsBounded p.connection → IsBounded (act_after index act p).connection
act_bounded index (At event) p allowed bounded = event_bounded index event p allowed bounded
act_bounded index (By (Connection stream) call) p allowed bounded = changed_bounded (stream == index) (call_after call) p (call_bounded call) bounded
act_bounded index (By (Socket socket) call) p allowed bounded = bounded
act_bounded index (By Nowhere call) p allowed bounded = bounded

-- whatever happens, no more bytes are held
pub follows_bounded : (index : ℕ) (acts : List Act) (p q : Place) → IsBounded p.connection → Follows index p acts q → IsBounded q.connection
follows_bounded index [] p q bounded follows = subst (λ (left : Place). IsBounded left.connection) follows bounded
follows_bounded index (act ∷ acts) p q bounded follows = follows_bounded index acts (act_after index act p) q (act_bounded index act p follows.0 bounded) follows.1

-- ---- idle connections

-- one that has gone on, and waits for its peer, is not due
pub waits_are : (s : Stream) (now : ℕ) → HasGoneOn now (Some (Some s)) → s.wants_turn ≡ false → s.held.items ≡ [] → now < later_by s.last_activity 10000
waits_are s now (inl wants) waits none = absurd (cc)
waits_are s now (inr early) waits none = subst (λ (moment : ℕ). now < moment) (deadline_is s waits none) early
  where
    deadline_is : (s : Stream) → s.wants_turn ≡ false → s.held.items ≡ [] → deadline s ≡ later_by s.last_activity 10000
    deadline_is s waits none = simp (waits, none)

-- the earliest moment is no later than each
earliest_first : (slots : List (Option Stream)) (index : ℕ) (stream : Stream) → slice_get slots index ≡ Some (Some stream) → earliest slot_deadline slots ≤ deadline stream
earliest_first [] index stream found = absurd (cc)
earliest_first (slot ∷ slots) zero stream found =
    let same : slot_deadline slot ≡ deadline stream = by slot found in
    grind (arith, same)
  where
    by : (o : Option Stream) → Some o ≡ Some (Some stream) → slot_deadline o ≡ deadline stream
    by None found = absurd (cc)
    by (Some other) found = cc
earliest_first (slot ∷ slots) (suc index) stream found =
    let rest = earliest_first slots index stream found in
    grind (arith, rest)

sooner_first : (moment : ℕ) (other : Option ℕ) → sooner moment other ≤ moment
sooner_first moment None = omega arith
sooner_first moment (Some other) = grind (arith)

mins_first : (a b c d : ℕ) → a ≤ d → min (min a b) c ≤ d
mins_first a b c d le = grind (arith, le)

-- a service waits no longer than until a connection has something to do
pub wakes_for : (s : Service) (index : ℕ) (stream : Stream) → slice_get s.streams.slots.items index ≡ Some (Some stream) → service_deadline s ≤ deadline stream
wakes_for s index stream found =
    let least = earliest_first s.streams.slots.items index stream found in
    let sooner_is = sooner_first (earliest slot_deadline s.streams.slots.items) (first_moment s.waiting.items) in
    mins_first (sooner (earliest slot_deadline s.streams.slots.items) (first_moment s.waiting.items)) (earliest socket_deadline s.datagrams.items) (earliest listener_deadline s.listeners.items) (deadline stream)
    (omega (arith, least, sooner_is))

-- one on which no bytes were moved for too long is closed
pub closed_in_time : (old : Stream) (new : Option Stream) (now : ℕ) → later_by old.last_activity 10000 ≤ now → HasGoneOn now (Some new) → IsAsActive (Some (Some old)) (Some new)
    → IfSome new (λ s. (s.wants_turn ≡ false) × (s.held.items ≡ [])) → new ≡ None
closed_in_time old None now late gone same waits = refl
closed_in_time old (Some s) now late gone same waits =
    let early = subst (λ (moment : ℕ). now < later_by moment 10000) same (waits_are s now gone waits.0 waits.1) in
    absurd (omega (arith, early, late))
