-- What a service does, one part after another.
use Rattle.std.proofs.Common.{◌≡◌, inl, inr, zero, suc, Bool, true, false, ℕ, List, [], ◌∷◌, ◌++◌, map, Option, Some, None, refl, sym, subst}
use Rattle.std.specs.List.{AllByRecursion}
use Rattle.std.specs.Prelude.{⊤, Result, Ok, Err}
use Rattle.std.specs.declared.io.Error.{Error}
use Rattle.std.specs.declared.net.socket_addr.SocketAddr.{SocketAddr}
use Rattle.dns_sockets.specs.Connections.{AreFollowed, AreKept, Follows, Place, place_in}
use Rattle.dns_sockets.specs.Datagrams.{AreSent, AreSteps, Handle, Handles, HandlesAt, IsReceive, IsTurn, IsTurnUnless, Receive, ReceivesBy, TakesIf, TurnStep, peer_of}
use Rattle.dns_sockets.specs.Events.{Performs}
use Rattle.dns_sockets.specs.Handler.{HandlerEvent, NoticeContent}
use Rattle.dns_sockets.specs.Ledger.{Earns}
use Rattle.dns_sockets.specs.Moments.{IsTimed}
use Rattle.dns_sockets.specs.Notices.{AreNotices, IsNotice, is_response}
use Rattle.dns_sockets.specs.Served.{IsServed}
use Rattle.dns_sockets.specs.Trace.{Act, At, By, Connection, IsAside, IsAsideEvent, IsQuiet, Nowhere, Socket, Traces}
use Rattle.dns_sockets.specs.World.{WorldEvent, Accepted, Admitted, Clocked, Closed, Read, Received, Sent, Unreceived, Waited, Woken, Written, clock_event}
use Rattle.dns_sockets.specs.declared.datagrams.Datagram.{Datagram}
use Rattle.dns_sockets.specs.declared.datagrams.WaitingReply.{WaitingReply}
use Rattle.dns_sockets.specs.declared.stream.Stream.{Stream}
use Rattle.dns_sockets.specs.schedule.Schedule.{ScheduleContent, Waiting, all_due, all_left}
use Rattle.dns_sockets.proofs.ConnectionLaws.{followed_both, followed_kept}
use Rattle.dns_sockets.proofs.LedgerLaws.{IsSending, aside_earns, due_earns, earns_both, notices_earn, outcome_is_sending, sent_are_sendings, tries_are_sendings, turn_earns}
use Rattle.dns_sockets.proofs.MomentLaws.{notices_timed, steps_timed, timed_both, timed_events, timed_none}
use Rattle.dns_sockets.proofs.TraceLaws.{all_more, leads_at, leads_both}

-- ---- what is about no connection

-- an event of no connection
abbrev pub IsApartEvent : WorldEvent → Type 0
IsApartEvent (Accepted listener peer) = ⊥
IsApartEvent (Admitted stream is_admitted) = ⊥
IsApartEvent (Closed stream) = ⊥
IsApartEvent (Read stream bytes) = ⊥
IsApartEvent (Written stream bytes) = ⊥
IsApartEvent event = ⊤

-- an act of no connection
abbrev pub IsApart : Act → Type 0
IsApart (At event) = IsApartEvent event
IsApart (By (Connection stream) call) = ⊥
IsApart (By (Socket socket) call) = ⊤
IsApart (By Nowhere call) = ⊤

-- it leaves each place
apart_follows : (index : ℕ) (p : Place) (acts : List Act) → AllByRecursion IsApart acts → Follows index p acts p
apart_follows index p [] all = refl
apart_follows index p (By (Socket socket) call ∷ acts) all = (tt, apart_follows index p acts all.1)
apart_follows index p (By Nowhere call ∷ acts) all = (tt, apart_follows index p acts all.1)
apart_follows index p (By (Connection stream) call ∷ acts) all = absurd all.0
apart_follows index p (At (Received socket bytes peer) ∷ acts) all = (tt, apart_follows index p acts all.1)
apart_follows index p (At (Unreceived socket) ∷ acts) all = (tt, apart_follows index p acts all.1)
apart_follows index p (At (Sent socket bytes peer taken) ∷ acts) all = (tt, apart_follows index p acts all.1)
apart_follows index p (At (Clocked moment) ∷ acts) all = (tt, apart_follows index p acts all.1)
apart_follows index p (At (Waited most) ∷ acts) all = (tt, apart_follows index p acts all.1)
apart_follows index p (At (Woken wake) ∷ acts) all = (tt, apart_follows index p acts all.1)
apart_follows index p (At (Accepted listener peer) ∷ acts) all = absurd all.0
apart_follows index p (At (Admitted stream is_admitted) ∷ acts) all = absurd all.0
apart_follows index p (At (Closed stream) ∷ acts) all = absurd all.0
apart_follows index p (At (Read stream bytes) ∷ acts) all = absurd all.0
apart_follows index p (At (Written stream bytes) ∷ acts) all = absurd all.0

apart_followed : (slots : List (Option Stream)) (acts : List Act) → AllByRecursion IsApart acts → AreFollowed slots slots acts
apart_followed slots acts all = λ index accepted. (accepted, apart_follows index (place_in slots index accepted) acts all)

-- ---- datagrams

sendings_apart : (es : List WorldEvent) → AllByRecursion IsSending es → AllByRecursion IsApart (map At es)
sendings_apart [] all = tt
sendings_apart (e ∷ es) all = (by e all.0, sendings_apart es all.1)
  where
    by : (e : WorldEvent) → IsSending e → IsApartEvent e
    by (Sent socket bytes peer taken) is = tt
    by (Received s b p) is = absurd is
    by (Unreceived s) is = absurd is
    by (Accepted l p) is = absurd is
    by (Admitted s a) is = absurd is
    by (Closed s) is = absurd is
    by (Read s b) is = absurd is
    by (Written s b) is = absurd is
    by (Clocked n) is = absurd is
    by (Waited m) is = absurd is
    by (Woken w) is = absurd is

calls_apart : (index : ℕ) (calls : List HandlerEvent) → AllByRecursion IsApart (map (By (Socket index)) calls)
calls_apart index [] = tt
calls_apart index (call ∷ calls) = (tt, calls_apart index calls)

receive_apart : (index : ℕ) (e : WorldEvent) → IsReceive index e → IsApartEvent e
receive_apart index (Received socket bytes peer) is = tt
receive_apart index (Unreceived socket) is = tt
receive_apart index (Sent socket bytes peer taken) is = absurd is
receive_apart index (Accepted listener peer) is = absurd is
receive_apart index (Admitted stream admitted) is = absurd is
receive_apart index (Closed stream) is = absurd is
receive_apart index (Read stream bytes) is = absurd is
receive_apart index (Written stream bytes) is = absurd is
receive_apart index (Clocked moment) is = absurd is
receive_apart index (Waited most) is = absurd is
receive_apart index (Woken wake) is = absurd is

-- readings of the clock
takes_apart : (b : Bool) (index : ℕ) (bytes : List ℕ) (peer : SocketAddr) (clocks : List WorldEvent) (calls : List HandlerEvent) (taken : Option Bool) → TakesIf b bytes peer clocks calls taken → AllByRecursion IsApart (map At clocks)
takes_apart true index bytes peer clocks calls None takes = subst (λ (es : List WorldEvent). AllByRecursion IsApart (map At es)) (sym takes.0) (tt, tt)
takes_apart true index bytes peer clocks calls (Some is_taken) takes = subst (λ (es : List WorldEvent). AllByRecursion IsApart (map At es)) (sym takes.1.0) (tt, tt)
takes_apart false index bytes peer clocks calls taken takes = subst (λ (es : List WorldEvent). AllByRecursion IsApart (map At es)) (sym takes.0) tt

clocks_apart : (index : ℕ) (e : WorldEvent) (old new : List Datagram) (clocks : List WorldEvent) (calls : List HandlerEvent) → IsReceive index e → ReceivesBy e old clocks calls new → AllByRecursion IsApart (map At clocks)
clocks_apart index (Received socket bytes peer) old new clocks calls is received = takes_apart (is_response bytes) index bytes peer clocks calls received.0 received.1.0
clocks_apart index (Unreceived socket) old new clocks calls is received = subst (λ (es : List WorldEvent). AllByRecursion IsApart (map At es)) (sym received.0) tt
clocks_apart index (Sent socket bytes peer taken) old new clocks calls is received = absurd is
clocks_apart index (Accepted listener peer) old new clocks calls is received = absurd is
clocks_apart index (Admitted stream admitted) old new clocks calls is received = absurd is
clocks_apart index (Closed stream) old new clocks calls is received = absurd is
clocks_apart index (Read stream bytes) old new clocks calls is received = absurd is
clocks_apart index (Written stream bytes) old new clocks calls is received = absurd is
clocks_apart index (Clocked moment) old new clocks calls is received = absurd is
clocks_apart index (Waited most) old new clocks calls is received = absurd is
clocks_apart index (Woken wake) old new clocks calls is received = absurd is

handles_apart : (shown : Option ℕ) (index : ℕ) (gathered : List Datagram) (old new : ScheduleContent WaitingReply) (acts : List Act) → HandlesAt shown index gathered old acts new → AllByRecursion IsApart acts
handles_apart None index gathered old new acts handled = subst (λ (l : List Act). AllByRecursion IsApart l) (sym handled.0) tt
handles_apart (Some now) index gathered old new acts handled =
    subst (λ (l : List Act). AllByRecursion IsApart l) (sym handled.3.0)
    (all_more IsApart (map (By (Socket index)) handled.1) (map At handled.2) (calls_apart index handled.1)
    (sendings_apart handled.2 (outcome_is_sending index now (map peer_of gathered) handled.0 old new handled.2 handled.3.1.1)))

handled_apart : (index : ℕ) (gathered : List Datagram) (old new : ScheduleContent WaitingReply) (acts : List Act) → Handles index gathered old acts new → AllByRecursion IsApart acts
handled_apart index gathered old new acts (inl none) = subst (λ (l : List Act). AllByRecursion IsApart l) (sym none.0) tt
handled_apart index gathered old new acts (inr some) = subst (λ (l : List Act). AllByRecursion IsApart l) (sym some.2.0) (tt, handles_apart some.0 index gathered old new some.1 some.2.1)

steps_apart : (index : ℕ) (steps : List TurnStep) (g g1 : List Datagram) (old new : ScheduleContent WaitingReply) (acts : List Act) → AreSteps index steps g old acts g1 new → AllByRecursion IsApart acts
steps_apart index [] g g1 old new acts are = subst (λ (l : List Act). AllByRecursion IsApart l) (sym are.0) tt
steps_apart index (Receive first ∷ steps) g g1 old new acts are =
    let received = are.2.1.0 in
    subst (λ (l : List Act). AllByRecursion IsApart l) (sym are.2.0)
    (all_more IsApart first are.1
    (subst (λ (l : List Act). AllByRecursion IsApart l) (sym received.3.0) (
      receive_apart index received.0 received.3.1.0,
      all_more IsApart (map At received.1) (map (By (Socket index)) received.2) (clocks_apart index received.0 g are.0 received.1 received.2 received.3.1.0 received.3.1.1) (calls_apart index received.2),
    ))
    (steps_apart index steps are.0 g1 old new are.1 are.2.1.1))
steps_apart index (Handle first ∷ steps) g g1 old new acts are =
    subst (λ (l : List Act). AllByRecursion IsApart l) (sym are.2.0)
    (all_more IsApart first are.1 (handled_apart index g old are.0 first are.2.1.0) (steps_apart index steps [] g1 are.0 new are.1 are.2.1.1))

notice_apart : (sockets now : ℕ) (notice : NoticeContent) (acts : List Act) → IsNotice sockets now notice acts → AllByRecursion IsApart acts
notice_apart sockets now notice acts is =
    subst (λ (l : List Act). AllByRecursion IsApart l) (sym is.1.0) (tt, sendings_apart is.0 (tries_are_sendings 0 sockets notice.bytes notice.peer is.0 is.1.1))

notices_apart : (most sockets now : ℕ) (acts : List Act) → AreNotices most sockets now acts → AllByRecursion IsApart acts
notices_apart zero sockets now acts none = subst (λ (l : List Act). AllByRecursion IsApart l) (sym none) tt
notices_apart (suc most) sockets now acts (inl none) = subst (λ (l : List Act). AllByRecursion IsApart l) (sym none) (tt, tt)
notices_apart (suc most) sockets now acts (inr more) =
    subst (λ (l : List Act). AllByRecursion IsApart l) (sym more.3.0)
    (all_more IsApart more.1 more.2 (notice_apart sockets now more.0 more.1 more.3.1.0) (notices_apart most sockets now more.2 more.3.1.1))

-- ---- the clock

quiet_apart : (es : List WorldEvent) → AllByRecursion IsQuiet es → AllByRecursion IsApart (map At es) × AllByRecursion IsAside (map At es)
quiet_apart [] all = (tt, tt)
quiet_apart (e ∷ es) all = let rest = quiet_apart es all.1 in let one = by e all.0 in ((one.0, rest.0), (one.1, rest.1))
  where
    by : (e : WorldEvent) → IsQuiet e → IsApartEvent e × IsAsideEvent e
    by (Clocked moment) is = (tt, tt)
    by (Waited most) is = (tt, tt)
    by (Woken wake) is = (tt, tt)
    by (Sent socket bytes peer taken) is = absurd is
    by (Received s b p) is = absurd is
    by (Unreceived s) is = absurd is
    by (Accepted l p) is = absurd is
    by (Admitted s a) is = absurd is
    by (Closed s) is = absurd is
    by (Read s b) is = absurd is
    by (Written s b) is = absurd is

pub clock_is_quiet : (now : Result ℕ Error) → IsQuiet (clock_event now)
clock_is_quiet (Ok moment) = tt
clock_is_quiet (Err error) = tt

aside_events : (es : List WorldEvent) → AllByRecursion IsAsideEvent es → AllByRecursion IsAside (map At es)
aside_events [] all = tt
aside_events (e ∷ es) all = (all.0, aside_events es all.1)

-- ---- a service

-- a turn of a datagram socket
pub turn_served : (index : ℕ) (old new : ScheduleContent WaitingReply) (lost : List Datagram) (acts : List Act) (ss : List (Option Stream)) → IsTurn index [] old lost new acts → IsServed old.items ss new.items ss acts
turn_served index old new lost acts ss turn = record {
  earns = turn_earns index old new lost acts turn;
  follows = apart_followed ss acts (steps_apart index turn.0 [] lost old new acts turn.1);
  timed = steps_timed index turn.0 [] lost old new acts turn.1;
}

turn_of : (fails : Bool) (index : ℕ) (old new : ScheduleContent WaitingReply) (acts : List Act) → IsTurnUnless fails index old new acts → (lost : List Datagram) × IsTurn index [] old lost new acts
turn_of true index old new acts turn = turn
turn_of false index old new acts turn = ([], turn)

module _ {S H : Type 0} (performs : S → WorldEvent → S → Type 0) (steps : H → HandlerEvent → H → Type 0) where
  -- nothing happens
  pub serves_nothing : (w : S) (h : H) (ws : List (Waiting WaitingReply)) (ss : List (Option Stream)) → Traces performs steps w h w h (IsServed ws ss ws ss)
  serves_nothing w h ws ss = record { acts = []; leads = (refl, refl); holds = record { earns = aside_earns ws [] tt; follows = apart_followed ss [] tt; timed = timed_none } }

  -- acts after others
  pub serves_then : (w w1 w2 : S) (h h1 h2 : H) (a b c : List (Waiting WaitingReply)) (s s1 s2 : List (Option Stream)) → Traces performs steps w h w1 h1 (IsServed a s b s1)
      → Traces performs steps w1 h1 w2 h2 (IsServed b s1 c s2) → Traces performs steps w h w2 h2 (IsServed a s c s2)
  serves_then w w1 w2 h h1 h2 a b c s s1 s2 first next = record {
    acts = first.acts ++ next.acts;
    leads = leads_both performs steps w w1 w2 h h1 h2 first.acts next.acts first.leads next.leads;
    holds = record {
      earns = earns_both a b c first.acts next.acts first.holds.earns next.holds.earns;
      follows = followed_both s s1 s2 first.acts next.acts first.holds.follows next.holds.follows;
      timed = timed_both first.acts next.acts first.holds.timed next.holds.timed;
    };
  }

  -- connections that are as they were
  pub serves_kept : (w w1 : S) (h h1 : H) (a b : List (Waiting WaitingReply)) (s s1 s2 : List (Option Stream)) → Traces performs steps w h w1 h1 (IsServed a s b s1) → AreKept s1 s2 → Traces performs steps w h w1 h1 (IsServed a s b s2)
  serves_kept w w1 h h1 a b s s1 s2 served kept = record {
    acts = served.acts;
    leads = served.leads;
    holds = record { earns = served.holds.earns; follows = followed_kept s s1 s2 served.acts served.holds.follows kept; timed = served.holds.timed };
  }

  -- replies that wait as they did
  pub serves_waiting : (w w1 : S) (h h1 : H) (a : List (Waiting WaitingReply)) (b c : ScheduleContent WaitingReply) (s s1 : List (Option Stream)) → Traces performs steps w h w1 h1 (IsServed a s b.items s1) → c ≡ b
      → Traces performs steps w h w1 h1 (IsServed a s c.items s1)
  serves_waiting w w1 h h1 a b c s s1 served same = subst (λ (left : ScheduleContent WaitingReply). Traces performs steps w h w1 h1 (IsServed a s left.items s1)) (sym same) served

  -- the clock, and waits
  pub serves_quiet : (w w1 : S) (h : H) (ws : List (Waiting WaitingReply)) (ss : List (Option Stream)) → Performs performs w w1 (AllByRecursion IsQuiet) → Traces performs steps w h w1 h (IsServed ws ss ws ss)
  serves_quiet w w1 h ws ss happened =
      let quiet = quiet_apart happened.events happened.holds in
      record {
        acts = map At happened.events;
        leads = leads_at performs steps w w1 h happened.events happened.led;
        holds = record { earns = aside_earns ws (map At happened.events) quiet.1; follows = apart_followed ss (map At happened.events) quiet.0; timed = timed_events happened.events };
      }

  -- listeners
  pub serves_events : (w w1 : S) (h : H) (ws : List (Waiting WaitingReply)) (s s1 : List (Option Stream)) → Performs performs w w1 (λ es. AllByRecursion IsAsideEvent es × AreFollowed s s1 (map At es))
      → Traces performs steps w h w1 h (IsServed ws s ws s1)
  serves_events w w1 h ws s s1 happened = record {
    acts = map At happened.events;
    leads = leads_at performs steps w w1 h happened.events happened.led;
    holds = record { earns = aside_earns ws (map At happened.events) (aside_events happened.events happened.holds.0); follows = happened.holds.1; timed = timed_events happened.events };
  }

  -- connections
  pub serves_streams : (w w1 : S) (h h1 : H) (ws : List (Waiting WaitingReply)) (s s1 : List (Option Stream)) → Traces performs steps w h w1 h1 (λ acts. AllByRecursion IsAside acts × AreFollowed s s1 acts × IsTimed acts)
      → Traces performs steps w h w1 h1 (IsServed ws s ws s1)
  serves_streams w w1 h h1 ws s s1 happened = record {
    acts = happened.acts;
    leads = happened.leads;
    holds = record { earns = aside_earns ws happened.acts happened.holds.0; follows = happened.holds.1; timed = happened.holds.2 };
  }

  -- a turn of a datagram socket
  pub serves_turn : (fails : Bool) (w w1 : S) (h h1 : H) (index : ℕ) (old new : ScheduleContent WaitingReply) (ss : List (Option Stream)) → Traces performs steps w h w1 h1 (IsTurnUnless fails index old new)
      → Traces performs steps w h w1 h1 (IsServed old.items ss new.items ss)
  serves_turn fails w w1 h h1 index old new ss turn =
      let steps_are = turn_of fails index old new turn.acts turn.holds in
      record {
        acts = turn.acts;
        leads = turn.leads;
        holds = turn_served index old new steps_are.0 turn.acts ss steps_are.1;
      }

  -- replies whose moment has come
  pub serves_due : (w w1 : S) (h : H) (now : ℕ) (old new : ScheduleContent WaitingReply) (ss : List (Option Stream)) → new ≡ record old { items = all_left now old.items } → Performs performs w w1 (AreSent (all_due now old.items))
      → Traces performs steps w h w1 h (IsServed old.items ss new.items ss)
  serves_due w w1 h now old new ss left sent = record {
    acts = map At sent.events;
    leads = leads_at performs steps w w1 h sent.events sent.led;
    holds = record {
      earns = subst (λ (s : ScheduleContent WaitingReply). Earns old.items s.items (map At sent.events)) (sym left) (due_earns now old.items sent.events sent.holds);
      follows = apart_followed ss (map At sent.events) (sendings_apart sent.events (sent_are_sendings (all_due now old.items) sent.events sent.holds));
      timed = timed_events sent.events;
    };
  }

  -- datagrams without a request
  pub serves_notices : (w w1 : S) (h h1 : H) (ws : List (Waiting WaitingReply)) (ss : List (Option Stream)) (most sockets now : ℕ) → Traces performs steps w h w1 h1 (AreNotices most sockets now)
      → Traces performs steps w h w1 h1 (IsServed ws ss ws ss)
  serves_notices w w1 h h1 ws ss most sockets now sent = record {
    acts = sent.acts;
    leads = sent.leads;
    holds = record { earns = notices_earn ws most sockets now sent.acts sent.holds; follows = apart_followed ss sent.acts (notices_apart most sockets now sent.acts sent.holds); timed = notices_timed most sockets now sent.acts sent.holds };
  }
