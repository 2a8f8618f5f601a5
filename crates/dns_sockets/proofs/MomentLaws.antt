-- The moments of requests, act by act.
use Rattle.std.proofs.Common.{◌≡◌, ◌∙◌, ◌⊎◌, inl, inr, zero, suc, Bool, true, false, ℕ, List, [], ◌∷◌, ◌++◌, map, Option, Some, None, refl, sym, ap, subst}
use Rattle.std.proofs.lemmas.List.Elements.{All-contains, All-from_recursion, Contains-append_cases}
use Rattle.std.specs.List.{AllByRecursion, Contains}
use Rattle.std.specs.Prelude.{slice_get, ⊤}
use Rattle.std.specs.declared.net.socket_addr.SocketAddr.{SocketAddr}
use Rattle.dns_sockets.specs.Datagrams.{AreSteps, Gathers, Handle, Handles, HandlesAt, HandlesIf, Receive, Receives, ReceivesBy, TakesIf, TurnStep, content_at, IsReceive}
use Rattle.dns_sockets.specs.Handler.{HandlerEvent, NoticeContent, RequestContent}
use Rattle.dns_sockets.specs.Moments.{AreAt, AreTimed, IsDated, IsStill, IsTimed, requests_in, shown_after}
use Rattle.dns_sockets.specs.Notices.{AreNotices, IsNotice, is_response}
use Rattle.dns_sockets.specs.Stream.{Answers, AnswersAt, AreAnswered, AreHandled, IsHandledUnless, stream_request}
use Rattle.dns_sockets.specs.Trace.{Act, At, By, Connection, Origin, Socket}
use Rattle.dns_sockets.specs.World.{WorldEvent, Accepted, Admitted, Clocked, Closed, Read, Received, Sent, Unreceived, Waited, Woken, Written}
use Rattle.dns_sockets.specs.declared.datagrams.Datagram.{Datagram}
use Rattle.dns_sockets.specs.declared.datagrams.WaitingReply.{WaitingReply}
use Rattle.dns_sockets.specs.schedule.Schedule.{ScheduleContent}
use Rattle.dns_sockets.proofs.TraceLaws.{all_become}

-- acts after others
pub timed_both : (xs ys : List Act) → IsTimed xs → IsTimed ys → IsTimed (xs ++ ys)
timed_both xs ys first next shown = by xs shown (first shown)
  where
    by : (xs : List Act) (shown : Option ℕ) → AreTimed shown xs → AreTimed shown (xs ++ ys)
    by [] shown timed = next shown
    by (x ∷ xs) shown timed = (timed.0, by xs (shown_after x shown) timed.1)

-- no act
pub timed_none : IsTimed []
timed_none shown = tt

-- events of the world
pub timed_events : (es : List WorldEvent) → IsTimed (map At es)
timed_events [] shown = tt
timed_events (e ∷ es) shown = (tt, timed_events es (shown_after (At e) shown))

-- calls at the moment that is shown, and then events
timed_calls : (origin : Origin) (now : ℕ) (calls : List HandlerEvent) (rest : List Act) → AreTimed (Some now) (map (By origin) calls) → IsTimed rest → AreTimed (Some now) (map (By origin) calls ++ rest)
timed_calls origin now [] rest timed next = next (Some now)
timed_calls origin now (call ∷ calls) rest timed next = (timed.0, timed_calls origin now calls rest timed.1 next)

-- ---- datagrams

contents_at : (now : ℕ) (gathered : List Datagram) → AreAt (Some now) (map (content_at now) gathered)
contents_at now [] = tt
contents_at now (d ∷ ds) = (refl, contents_at now ds)

handled_timed : (index now : ℕ) (gathered : List Datagram) (calls : List HandlerEvent) (outcome : Option (List _)) → HandlesIf now gathered calls outcome → AreTimed (Some now) (map (By (Socket index)) calls)
handled_timed index now gathered calls outcome (inl one) = subst (λ (l : List HandlerEvent). AreTimed (Some now) (map (By (Socket index)) l)) (sym one) (contents_at now gathered, tt)
handled_timed index now gathered calls outcome (inr none) = subst (λ (l : List HandlerEvent). AreTimed (Some now) (map (By (Socket index)) l)) (sym none.0) tt

at_timed : (shown : Option ℕ) (index : ℕ) (gathered : List Datagram) (old new : ScheduleContent WaitingReply) (acts : List Act) → HandlesAt shown index gathered old acts new → AreTimed shown acts
at_timed None index gathered old new acts handles = subst (λ (l : List Act). AreTimed None l) (sym handles.0) tt
at_timed (Some now) index gathered old new acts handles =
    subst (λ (l : List Act). AreTimed (Some now) l) (sym handles.3.0)
    (timed_calls (Socket index) now handles.1 (map At handles.2) (handled_timed index now gathered handles.1 handles.0 handles.3.1.0) (timed_events handles.2))

handles_timed : (index : ℕ) (gathered : List Datagram) (old new : ScheduleContent WaitingReply) (acts : List Act) → Handles index gathered old acts new → IsTimed acts
handles_timed index gathered old new acts (inl none) shown = subst (λ (l : List Act). AreTimed shown l) (sym none.0) tt
handles_timed index gathered old new acts (inr some) shown = subst (λ (l : List Act). AreTimed shown l) (sym some.2.0) (tt, at_timed some.0 index gathered old new some.1 some.2.1)

-- a datagram that is taken, once it has arrived
takes_timed : (b : Bool) (index : ℕ) (bytes : List ℕ) (peer : SocketAddr) (clocks : List WorldEvent) (calls : List HandlerEvent) (taken : Option Bool) → TakesIf b bytes peer clocks calls taken
    → IsTimed (map At clocks ++ map (By (Socket index)) calls)
takes_timed true index bytes peer clocks calls None takes shown =
    subst (λ (es : List WorldEvent). AreTimed shown (map At es ++ map (By (Socket index)) calls)) (sym takes.0)
    (subst (λ (l : List HandlerEvent). AreTimed shown (At (Clocked None) ∷ map (By (Socket index)) l)) (sym takes.1) (tt, tt))
takes_timed true index bytes peer clocks calls (Some is_taken) takes shown =
    subst (λ (es : List WorldEvent). AreTimed shown (map At es ++ map (By (Socket index)) calls)) (sym takes.1.0)
    (subst (λ (l : List HandlerEvent). AreTimed shown (At (Clocked (Some takes.0)) ∷ map (By (Socket index)) l)) (sym takes.1.1) (tt, ((refl, tt), tt)))
takes_timed false index bytes peer clocks calls taken takes shown =
    subst (λ (es : List WorldEvent). AreTimed shown (map At es ++ map (By (Socket index)) calls)) (sym takes.0)
    (subst (λ (l : List HandlerEvent). AreTimed shown (map (By (Socket index)) l)) (sym takes.1.0) tt)

nothing_timed : (index : ℕ) (clocks : List WorldEvent) (calls : List HandlerEvent) → clocks ≡ [] → calls ≡ [] → IsTimed (map At clocks ++ map (By (Socket index)) calls)
nothing_timed index clocks calls none no_call shown =
    subst (λ (es : List WorldEvent). AreTimed shown (map At es ++ map (By (Socket index)) calls)) (sym none)
    (subst (λ (l : List HandlerEvent). AreTimed shown (map (By (Socket index)) l)) (sym no_call) tt)

receives_timed : (index : ℕ) (e : WorldEvent) (old new : List Datagram) (clocks : List WorldEvent) (calls : List HandlerEvent) → IsReceive index e → ReceivesBy e old clocks calls new
    → IsTimed (map At clocks ++ map (By (Socket index)) calls)
receives_timed index (Received socket bytes peer) old new clocks calls is received = takes_timed (is_response bytes) index bytes peer clocks calls received.0 received.1.0
receives_timed index (Unreceived socket) old new clocks calls is received = nothing_timed index clocks calls received.0 received.1.0
receives_timed index (Sent socket bytes peer taken) old new clocks calls is received = absurd is
receives_timed index (Accepted listener peer) old new clocks calls is received = absurd is
receives_timed index (Admitted stream admitted) old new clocks calls is received = absurd is
receives_timed index (Closed stream) old new clocks calls is received = absurd is
receives_timed index (Read stream bytes) old new clocks calls is received = absurd is
receives_timed index (Written stream bytes) old new clocks calls is received = absurd is
receives_timed index (Clocked moment) old new clocks calls is received = absurd is
receives_timed index (Waited most) old new clocks calls is received = absurd is
receives_timed index (Woken wake) old new clocks calls is received = absurd is

-- steps of a turn of a datagram socket
pub steps_timed : (index : ℕ) (steps : List TurnStep) (g g1 : List Datagram) (old new : ScheduleContent WaitingReply) (acts : List Act) → AreSteps index steps g old acts g1 new → IsTimed acts
steps_timed index [] g g1 old new acts are = subst IsTimed (sym are.0) timed_none
steps_timed index (Receive first ∷ steps) g g1 old new acts are =
    let received = are.2.1.0 in
    subst IsTimed (sym are.2.0)
    (timed_both first are.1
    (subst IsTimed (sym received.3.0) (λ shown. (tt, receives_timed index received.0 g are.0 received.1 received.2 received.3.1.0 received.3.1.1 (shown_after (At received.0) shown))))
    (steps_timed index steps are.0 g1 old new are.1 are.2.1.1))
steps_timed index (Handle first ∷ steps) g g1 old new acts are =
    subst IsTimed (sym are.2.0) (timed_both first are.1 (handles_timed index g old are.0 first are.2.1.0) (steps_timed index steps [] g1 are.0 new are.1 are.2.1.1))

-- ---- datagrams without a request

pub notices_timed : (most sockets now : ℕ) (acts : List Act) → AreNotices most sockets now acts → IsTimed acts
notices_timed zero sockets now acts none = subst IsTimed (sym none) timed_none
notices_timed (suc most) sockets now acts (inl none) = subst IsTimed (sym none) (λ shown. (tt, tt))
notices_timed (suc most) sockets now acts (inr more) =
    subst IsTimed (sym more.3.0) (timed_both more.1 more.2 (notice_timed more.0 more.1 more.3.1.0) (notices_timed most sockets now more.2 more.3.1.1))
  where
    notice_timed : (notice : NoticeContent) (acts : List Act) → IsNotice sockets now notice acts → IsTimed acts
    notice_timed notice acts is = subst IsTimed (sym is.1.0) (λ shown. (tt, timed_events is.0 shown))

-- ---- requests over streams

messages_at : (peer : SocketAddr) (now : ℕ) (messages : List (List ℕ)) → AreAt (Some now) (map (stream_request peer now) messages)
messages_at peer now [] = tt
messages_at peer now (m ∷ ms) = (refl, messages_at peer now ms)

handled_together : (index now : ℕ) (requests : List RequestContent) (calls : List HandlerEvent) → AreAt (Some now) requests → AreHandled requests calls → AreTimed (Some now) (map (By (Connection index)) calls)
handled_together index now requests calls at handled = subst (λ (l : List HandlerEvent). AreTimed (Some now) (map (By (Connection index)) l)) (sym handled.1) (at, tt)

unless_timed : (index now : ℕ) (r : RequestContent) (messages : Option (Option (List (List ℕ)))) (calls : List HandlerEvent) → AreAt (Some now) (r ∷ []) → IsHandledUnless r messages calls → AreTimed (Some now) (map (By (Connection index)) calls)
unless_timed index now r None calls at none = subst (λ (l : List HandlerEvent). AreTimed (Some now) (map (By (Connection index)) l)) (sym none) tt
unless_timed index now r (Some (Some messages)) calls at none = subst (λ (l : List HandlerEvent). AreTimed (Some now) (map (By (Connection index)) l)) (sym none) tt
unless_timed index now r (Some None) calls at handled = handled_together index now (r ∷ []) calls at handled

answered_timed : (index now : ℕ) (is_busy : Bool) (requests : List RequestContent) (calls : List HandlerEvent) → AreAt (Some now) requests → AreAnswered is_busy requests calls → AreTimed (Some now) (map (By (Connection index)) calls)
answered_timed index now is_busy [] calls at answered = handled_together index now [] calls at answered
answered_timed index now is_busy (r ∷ []) calls at answered =
    subst (λ (l : List HandlerEvent). AreTimed (Some now) (map (By (Connection index)) l)) (sym answered.2.0) (at, unless_timed index now r answered.0 answered.1 at answered.2.1)
answered_timed index now is_busy (r ∷ s ∷ more) calls at answered = handled_together index now (r ∷ s ∷ more) calls at answered

answers_timed : (index now : ℕ) (is_busy : Bool) (peer : SocketAddr) (calls : List HandlerEvent) → Answers is_busy peer now calls → AreTimed (Some now) (map (By (Connection index)) calls)
answers_timed index now is_busy peer calls (inl none) = subst (λ (l : List HandlerEvent). AreTimed (Some now) (map (By (Connection index)) l)) (sym none) tt
answers_timed index now is_busy peer calls (inr some) = answered_timed index now is_busy (map (stream_request peer now) some.0) calls (messages_at peer now some.0) some.1

-- requests over a stream, once the clock is read
pub stream_timed : (index : ℕ) (shown : Option ℕ) (is_busy : Bool) (peer : SocketAddr) (calls : List HandlerEvent) → AnswersAt shown is_busy peer calls → IsTimed (At (Clocked shown) ∷ map (By (Connection index)) calls)
stream_timed index None is_busy peer calls none before = (tt, subst (λ (l : List HandlerEvent). AreTimed None (map (By (Connection index)) l)) (sym none) tt)
stream_timed index (Some now) is_busy peer calls answers before = (tt, answers_timed index now is_busy peer calls answers)

-- ---- a request

-- what the clock showed last after acts, unless something was received or read since
abbrev shown_by : List Act → Option ℕ → Option ℕ
shown_by [] shown = shown
shown_by (act ∷ acts) shown = shown_by acts (shown_after act shown)

-- it was shown in these acts, or before them
dated_from : (moment : ℕ) (acts : List Act) (shown : Option ℕ) → shown_by acts shown ≡ Some moment → IsDated moment acts ⊎ ((shown ≡ Some moment) × AllByRecursion IsStill acts)
dated_from moment [] shown is = inr (is, tt)
dated_from moment (x ∷ acts) shown is = by x (dated_from moment acts (shown_after x shown) is)
  where
    by : (x : Act) → IsDated moment acts ⊎ ((shown_after x shown ≡ Some moment) × AllByRecursion IsStill acts) → IsDated moment (x ∷ acts) ⊎ ((shown ≡ Some moment) × AllByRecursion IsStill (x ∷ acts))
    by x (inl d) = inl (record { earlier = x ∷ d.earlier; later = d.later; acts_are = ap (λ (l : List Act). x ∷ l) d.acts_are; still = d.still })
    by (At (Clocked m)) (inr since) = inl (record { earlier = []; later = acts; acts_are = ap (λ (o : Option ℕ). At (Clocked o) ∷ acts) since.0; still = since.1 })
    by (At (Received socket bytes peer)) (inr since) = absurd (cc since.0)
    by (At (Read stream bytes)) (inr since) = absurd (cc since.0)
    by (At (Unreceived socket)) (inr since) = inr (since.0, (tt, since.1))
    by (At (Sent socket bytes peer taken)) (inr since) = inr (since.0, (tt, since.1))
    by (At (Accepted listener peer)) (inr since) = inr (since.0, (tt, since.1))
    by (At (Admitted stream admitted)) (inr since) = inr (since.0, (tt, since.1))
    by (At (Closed stream)) (inr since) = inr (since.0, (tt, since.1))
    by (At (Written stream bytes)) (inr since) = inr (since.0, (tt, since.1))
    by (At (Waited most)) (inr since) = inr (since.0, (tt, since.1))
    by (At (Woken wake)) (inr since) = inr (since.0, (tt, since.1))
    by (By origin call) (inr since) = inr (since.0, (tt, since.1))

timed_at : (before : List Act) (origin : Origin) (call : HandlerEvent) (rest : List Act) (shown : Option ℕ) → AreTimed shown (before ++ By origin call ∷ rest) → AreAt (shown_by before shown) (requests_in call)
timed_at [] origin call rest shown timed = timed.0
timed_at (x ∷ before) origin call rest shown timed = timed_at before origin call rest (shown_after x shown) timed.1

at_place : (shown : Option ℕ) (rs : List RequestContent) (place : ℕ) (r : RequestContent) → AreAt shown rs → slice_get rs place ≡ Some r → shown ≡ Some r.moment
at_place shown [] place r at is = absurd (cc is)
at_place shown (q ∷ rs) zero r at is =
    let same : q ≡ r = cc is in
    at.0 ∙ ap (λ (x : RequestContent). Some x.moment) same
at_place shown (q ∷ rs) (suc place) r at is = at_place shown rs place r at.1 is

-- each request has the moment that the clock showed after all that had arrived
pub dated : (before : List Act) (origin : Origin) (call : HandlerEvent) (rest : List Act) (place : ℕ) (r : RequestContent) → IsTimed (before ++ By origin call ∷ rest) → slice_get (requests_in call) place ≡ Some r
    → IsDated r.moment before
dated before origin call rest place r timed is = by (dated_from r.moment before None (at_place (shown_by before None) (requests_in call) place r (timed_at before origin call rest None (timed None)) is))
  where
    by : IsDated r.moment before ⊎ ((None ≡ Some r.moment) × AllByRecursion IsStill before) → IsDated r.moment before
    by (inl d) = d
    by (inr since) = absurd (cc since.0)

-- ---- what had arrived

-- no datagram is received
abbrev IsNoReceipt : Act → Type 0
IsNoReceipt (At (Received socket bytes peer)) = ⊥
IsNoReceipt act = ⊤

still_is_no_receipt : (act : Act) → IsStill act → IsNoReceipt act
still_is_no_receipt (At (Clocked m)) still = absurd still
still_is_no_receipt (At (Received socket bytes peer)) still = absurd still
still_is_no_receipt (At (Read stream bytes)) still = absurd still
still_is_no_receipt (At (Unreceived socket)) still = tt
still_is_no_receipt (At (Sent socket bytes peer taken)) still = tt
still_is_no_receipt (At (Accepted listener peer)) still = tt
still_is_no_receipt (At (Admitted stream admitted)) still = tt
still_is_no_receipt (At (Closed stream)) still = tt
still_is_no_receipt (At (Written stream bytes)) still = tt
still_is_no_receipt (At (Waited most)) still = tt
still_is_no_receipt (At (Woken wake)) still = tt
still_is_no_receipt (By origin call) still = tt

-- a datagram that had arrived had done so before the clock was read
pub arrived_earlier : (moment socket : ℕ) (bytes : List ℕ) (peer : SocketAddr) (acts : List Act) (d : IsDated moment acts) → Contains acts (At (Received socket bytes peer)) → Contains d.earlier (At (Received socket bytes peer))
arrived_earlier moment socket bytes peer acts d arrived =
    by (Contains-append_cases d.earlier (At (Clocked (Some moment)) ∷ d.later) (At (Received socket bytes peer)) (subst (λ (l : List Act). Contains l (At (Received socket bytes peer))) d.acts_are arrived))
  where
    by : Contains d.earlier (At (Received socket bytes peer)) ⊎ Contains (At (Clocked (Some moment)) ∷ d.later) (At (Received socket bytes peer)) → Contains d.earlier (At (Received socket bytes peer))
    by (inl before) = before
    by (inr after) =
        absurd (All-contains IsNoReceipt (At (Clocked (Some moment)) ∷ d.later) (At (Received socket bytes peer))
        (All-from_recursion IsNoReceipt (At (Clocked (Some moment)) ∷ d.later) (tt, all_become IsStill IsNoReceipt still_is_no_receipt d.later d.still)) after)
