-- What becomes of deliveries, one after another.
use Rattle.std.proofs.Common.{Bool, true, false, ◌≡◌, ◌∙◌, ◌-◌, ◌+◌, ◌<◌, ◌≤◌, ℕ, suc, List, [], ◌∷◌, ◌++◌, drop, get_or, length, map, take, refl, sym, ap, subst, arith}
use Rattle.std.proofs.lemmas.List.{append-nil, append_assoc, map-append, take_all, take_more}
use Rattle.std.specs.Global.{Vec}
use Rattle.std.specs.Prelude.{Option, None, Result, Ok, Err, is_err}
use Rattle.std.specs.declared.alloc.AllocError.{AllocError}
use Rattle.std.specs.declared.io.Error.{Error}
use Rattle.std.specs.declared.net.socket_addr.SocketAddr.{SocketAddr}
use Rattle.dns_faults.specs.declared.delivery.Delivery.{Delivery}
use Rattle.dns_sockets.specs.Datagrams.{AreSteps, Delivers, DeliversAll, Handles, IsReceive, IsTurn, IsTurnUnless, Receives, ReceivesBy, TurnStep, Receive, Handle, peer_of, taken_if}
use Rattle.dns_sockets.specs.Handler.{HandlerEvent, deliveries_if}
use Rattle.dns_sockets.specs.Events.{Performs}
use Rattle.dns_sockets.specs.Trace.{Act, At, By, Consults, Socket, Traces}
use Rattle.dns_sockets.specs.declared.handler.Request.{Request}
use Rattle.dns_sockets.specs.World.{WorldEvent}
use Rattle.dns_sockets.proofs.TraceLaws.{leads_both, leads_consulted}
use Rattle.dns_sockets.specs.declared.datagrams.Datagram.{Datagram}
use Rattle.dns_sockets.specs.declared.datagrams.WaitingReply.{WaitingReply}
use Rattle.dns_sockets.specs.schedule.Schedule.{ScheduleContent}

abbrev Waiting : Type 0
Waiting = ScheduleContent WaitingReply

-- what was sent, before what becomes of the deliveries that are left, is what becomes of all
abbrev pub Completes : ℕ → ℕ → List Datagram → List Delivery → Waiting → List WorldEvent → List Datagram → List Delivery → Waiting → Type 0
Completes index now left ds at done all deliveries start =
    (rest : List WorldEvent) (new : Waiting) → DeliversAll index now (map peer_of left) ds at rest new → DeliversAll index now (map peer_of all) deliveries start (done ++ rest) new

-- one more delivery
pub delivered_more : (index now : ℕ) (left all : List Datagram) (datagram default : Datagram) (d : Delivery) (ds items deliveries : List Delivery) (start at mid : Waiting) (done es : List WorldEvent)
    → 1 ≤ length left → datagram ≡ get_or left 0 default → items ≡ d ∷ ds → Completes index now left items at done all deliveries start → Delivers index datagram.peer now d at es mid
    → Completes index now (take (length left - 1) (drop 1 left)) ds mid (done ++ es) all deliveries start
delivered_more index now [] all datagram default d ds items deliveries start at mid done es some first is completes one rest new more = absurd (omega (arith, some))
delivered_more index now (x ∷ left) all datagram default d ds items deliveries start at mid done es some first is completes one rest new more =
    let same : take (suc (length left) - 1) left ≡ left = take_all (suc (length left) - 1) left (omega arith) in
    let more_is = subst (λ (l : List Datagram). DeliversAll index now (map peer_of l) ds mid rest new) same more in
    let one_is = subst (λ (y : Datagram). Delivers index y.peer now d at es mid) first one in
    subst (λ (l : List WorldEvent). DeliversAll index now (map peer_of all) deliveries start l new) (sym (append_assoc done es rest))
    (completes (es ++ rest) new (subst (λ (l : List Delivery). DeliversAll index now (map peer_of (x ∷ left)) l at (es ++ rest) new) (sym is) (es, rest, mid, (refl, (one_is, more_is)))))

none_left : (index now : ℕ) (peers : List SocketAddr) (at : Waiting) → DeliversAll index now peers [] at [] at
none_left index now [] at = (refl, refl)
none_left index now (peer ∷ peers) at = (refl, refl)

-- no delivery is left
pub delivered_whole : (index now : ℕ) (left all : List Datagram) (items deliveries : List Delivery) (start at : Waiting) (done : List WorldEvent) → items ≡ []
    → Completes index now left items at done all deliveries start → DeliversAll index now (map peer_of all) deliveries start done at
delivered_whole index now left all items deliveries start at done none completes =
    subst (λ (l : List WorldEvent). DeliversAll index now (map peer_of all) deliveries start l at) (append-nil done)
    (completes [] at (subst (λ (l : List Delivery). DeliversAll index now (map peer_of left) l at [] at) (sym none) (none_left index now (map peer_of left) at)))

-- no datagram is left
pub delivered_to_all : (index now : ℕ) (left all : List Datagram) (items deliveries : List Delivery) (start at : Waiting) (done : List WorldEvent) → length left < 1
    → Completes index now left items at done all deliveries start → DeliversAll index now (map peer_of all) deliveries start done at
delivered_to_all index now [] all items deliveries start at done none completes =
    subst (λ (l : List WorldEvent). DeliversAll index now (map peer_of all) deliveries start l at) (append-nil done) (completes [] at (refl, refl))
delivered_to_all index now (x ∷ left) all items deliveries start at done none completes = absurd (omega (arith, none))

-- ---- requests

-- without memory there is no delivery
pub no_deliveries : (result : Result (Vec Delivery) AllocError) → is_err result ≡ true → deliveries_if result ≡ None
no_deliveries (Ok deliveries) fails = absurd (cc fails)
no_deliveries (Err error) fails = refl

-- and where the clock fails, it is not known whether a response is expected
pub not_known : (result : Result Bool Error) → is_err result ≡ true → taken_if result ≡ None
not_known (Ok is_taken) fails = absurd (cc fails)
not_known (Err error) fails = refl

-- there are none
pub none_gathered : (gathered : List Datagram) → length gathered ≡ 0 → gathered ≡ []
none_gathered [] none = refl
none_gathered (x ∷ gathered) none = absurd (omega (arith, none))

-- ---- turns

module _ (index : ℕ) where
  -- steps after others
  pub steps_append : (steps more : List TurnStep) (g g1 g2 : List Datagram) (w w1 w2 : Waiting) (acts rest : List Act) → AreSteps index steps g w acts g1 w1 → AreSteps index more g1 w1 rest g2 w2
      → AreSteps index (steps ++ more) g w (acts ++ rest) g2 w2
  steps_append [] more g g1 g2 w w1 w2 acts rest first then =
      subst (λ (l : List Act). AreSteps index more g w (l ++ rest) g2 w2) (sym first.0)
      (subst (λ (v : Waiting). AreSteps index more g v rest g2 w2) first.1.1
      (subst (λ (d : List Datagram). AreSteps index more d w1 rest g2 w2) first.1.0 then))
  steps_append (Receive one ∷ steps) more g g1 g2 w w1 w2 acts rest first then =
      let d = first in
      (d.0, d.1 ++ rest, (ap (λ (l : List Act). l ++ rest) d.2.0 ∙ append_assoc one d.1 rest, (d.2.1.0, steps_append steps more d.0 g1 g2 w w1 w2 d.1 rest d.2.1.1 then)))
  steps_append (Handle one ∷ steps) more g g1 g2 w w1 w2 acts rest first then =
      let d = first in
      (d.0, d.1 ++ rest, (ap (λ (l : List Act). l ++ rest) d.2.0 ∙ append_assoc one d.1 rest, (d.2.1.0, steps_append steps more [] g1 g2 d.0 w1 w2 d.1 rest d.2.1.1 then)))

  -- no step
  pub no_step : (g : List Datagram) (w : Waiting) → IsTurn index g w g w []
  no_step g w = ([], (refl, (refl, refl)))

  -- a receive
  pub one_receive : (g g1 : List Datagram) (w : Waiting) (acts : List Act) → Receives index g acts g1 → IsTurn index g w g1 w acts
  one_receive g g1 w acts received = (Receive acts ∷ [], (g1, [], (sym (append-nil acts), (received, (refl, (refl, refl))))))

  -- datagrams are handled
  pub one_handled : (g : List Datagram) (w w1 : Waiting) (acts : List Act) → Handles index g w acts w1 → IsTurn index g w [] w1 acts
  one_handled g w w1 acts handled = (Handle acts ∷ [], (w1, [], (sym (append-nil acts), (handled, (refl, (refl, refl))))))

  -- a turn goes on
  pub turns_append : {S H : Type 0} (performs : S → WorldEvent → S → Type 0) (steps : H → HandlerEvent → H → Type 0) (s s1 s2 : S) (h h1 h2 : H) (g g1 g2 : List Datagram) (w w1 w2 : Waiting)
      → Traces performs steps s h s1 h1 (IsTurn index g w g1 w1) → Traces performs steps s1 h1 s2 h2 (IsTurn index g1 w1 g2 w2) → Traces performs steps s h s2 h2 (IsTurn index g w g2 w2)
  turns_append performs steps s s1 s2 h h1 h2 g g1 g2 w w1 w2 first then = record {
    acts = first.acts ++ then.acts;
    leads = leads_both performs steps s s1 s2 h h1 h2 first.acts then.acts first.leads then.leads;
    holds = (first.holds.0 ++ then.holds.0, steps_append first.holds.0 then.holds.0 g g1 g2 w w1 w2 first.acts then.acts first.holds.1 then.holds.1);
  }

  -- a receive is a turn
  pub turn_received : {S H : Type 0} (performs : S → WorldEvent → S → Type 0) (steps : H → HandlerEvent → H → Type 0) (s s1 : S) (h h1 : H) (g g1 : List Datagram) (w : Waiting)
      → Traces performs steps s h s1 h1 (λ acts. Receives index g acts g1) → Traces performs steps s h s1 h1 (IsTurn index g w g1 w)
  turn_received performs steps s s1 h h1 g g1 w received = record { acts = received.acts; leads = received.leads; holds = one_receive g g1 w received.acts received.holds }

  -- and so is what becomes of all that were gathered
  pub turn_handled : {S H : Type 0} (performs : S → WorldEvent → S → Type 0) (steps : H → HandlerEvent → H → Type 0) (s s1 : S) (h h1 : H) (g same : List Datagram) (w w1 : Waiting) → same ≡ g
      → Traces performs steps s h s1 h1 (λ acts. Handles index same w acts w1) → Traces performs steps s h s1 h1 (IsTurn index g w [] w1)
  turn_handled performs steps s s1 h h1 g same w w1 is handled = record {
    acts = handled.acts;
    leads = handled.leads;
    holds = one_handled g w w1 handled.acts (subst (λ (ds : List Datagram). Handles index ds w handled.acts w1) is handled.holds);
  }

  -- a receive, and what its handler makes of it
  pub received : {S H : Type 0} (performs : S → WorldEvent → S → Type 0) (steps : H → HandlerEvent → H → Type 0) (s s1 s2 : S) (h h1 : H) (g g1 : List Datagram) (e : WorldEvent) → IsReceive index e → performs s e s1
      → Consults performs steps s1 h s2 h1 (λ clocks calls. ReceivesBy e g clocks calls g1) → Traces performs steps s h s2 h1 (λ acts. Receives index g acts g1)
  received performs steps s s1 s2 h h1 g g1 e is one called = record {
    acts = At e ∷ map At called.events ++ map (By (Socket index)) called.calls;
    leads = (s1, (one, leads_consulted performs steps (Socket index) s1 s2 h h1 called.events called.calls called.led called.called));
    holds = (e, called.events, called.calls, (refl, (is, called.holds)));
  }

  -- a turn that fails
  pub fails_turn : {S H : Type 0} (performs : S → WorldEvent → S → Type 0) (steps : H → HandlerEvent → H → Type 0) (fails : Bool) (s s1 : S) (h h1 : H) (w w1 : Waiting) (lost : List Datagram) → fails ≡ true
      → Traces performs steps s h s1 h1 (IsTurn index [] w lost w1) → Traces performs steps s h s1 h1 (IsTurnUnless fails index w w1)
  fails_turn performs steps fails s s1 h h1 w w1 lost is turn = record {
    acts = turn.acts;
    leads = turn.leads;
    holds = subst (λ (b : Bool). IsTurnUnless b index w w1 turn.acts) (sym is) (lost, turn.holds);
  }

  -- one at whose end no datagram is left
  pub ends_turn : {S H : Type 0} (performs : S → WorldEvent → S → Type 0) (steps : H → HandlerEvent → H → Type 0) (fails : Bool) (s s1 : S) (h h1 : H) (w w1 : Waiting)
      → Traces performs steps s h s1 h1 (IsTurn index [] w [] w1) → Traces performs steps s h s1 h1 (IsTurnUnless fails index w w1)
  ends_turn performs steps fails s s1 h h1 w w1 turn = record { acts = turn.acts; leads = turn.leads; holds = by fails turn.holds }
    where
      by : (b : Bool) → IsTurn index [] w [] w1 turn.acts → IsTurnUnless b index w w1 turn.acts
      by true all = ([], all)
      by false all = all
