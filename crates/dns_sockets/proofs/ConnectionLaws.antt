-- The connections of a table, and what happens on each of them.
use Rattle.std.proofs.Common.{◌≡◌, ◌∙◌, ◌==◌, ◌<◌, ◌≤◌, ◌⊎◌, inl, inr, zero, suc, Bool, true, false, ℕ, List, [], ◌∷◌, ◌++◌, length, map, Option, Some, None, refl, sym, ap, subst, arith}
use Rattle.std.specs.List.{AllByRecursion}
use Rattle.std.specs.Prelude.{IsSomeAnd, nat_lt, slice_get, slice_set, Result, Ok, Err}
use Rattle.std.specs.declared.io.Error.{Error}
use Rattle.std.specs.declared.net.socket_addr.SocketAddr.{SocketAddr}
use Rattle.std.proofs.lemmas.List.{map-append}
use Rattle.std.proofs.lemmas.Bool.{ltb-false, ltb-true}
use Rattle.std.proofs.lemmas.Bool.Decides.{nat_tests}
use Rattle.std.proofs.lemmas.Option.{slice_get_past, slice_get_within}
use Rattle.dns_sockets.specs.Connections.{AreFollowed, AreFollowedAside, AreKept, Connected, Follows, IsAdmitted, Place, admitted, call_after, changed, connected, connection_at, connection_in, connection_of, closed, event_after, place_in, read_after, written_after}
use Rattle.dns_sockets.specs.Events.{Performs}
use Rattle.dns_sockets.specs.Handler.{HandlerEvent}
use Rattle.dns_sockets.specs.Moments.{IsTimed}
use Rattle.dns_sockets.specs.StreamSteps.{Leaves, place}
use Rattle.dns_sockets.specs.StreamTable.{IsLeastActive, closed_at, is_less_active}
use Rattle.dns_sockets.specs.Trace.{Act, At, By, Connection, IsOfStream, Nowhere, Socket, Traces, IsAside, IsAsideEvent}
use Rattle.dns_sockets.specs.World.{WorldEvent, Accepted, Admitted, Clocked, Closed, Read, Received, Sent, Unreceived, Waited, Woken, Written, clock_event}
use Rattle.dns_sockets.specs.declared.stream.Stream.{Stream}
use Rattle.dns_sockets.proofs.MomentLaws.{timed_both, timed_none}
use Rattle.dns_sockets.proofs.StreamStepLaws.{follows_both, same_index}
use Rattle.dns_sockets.proofs.TraceLaws.{all_more, clock_is, leads_both, led_both, of_stream_is_aside}

-- ---- indices

pub other_index : (i j : ℕ) → (i ≡ j → ⊥) → (i == j) ≡ false
other_index i j differ = by (i == j) refl
  where
    by : (b : Bool) → (i == j) ≡ b → b ≡ false
    by true is = absurd (differ (grind (arith, nat_tests)))
    by false is = refl

pub same_or_other : (i j : ℕ) → (i ≡ j) ⊎ (i ≡ j → ⊥)
same_or_other i j = by (i == j) refl
  where
    by : (b : Bool) → (i == j) ≡ b → (i ≡ j) ⊎ (i ≡ j → ⊥)
    by true is = inl (grind (arith, nat_tests))
    by false is = inr (λ same. absurd (grind (arith, nat_tests)))

pub set_here : {A : Type 0} (xs : List A) (i : ℕ) (x : A) → i < length xs → slice_get (slice_set xs i x) i ≡ Some x
set_here [] i x within = absurd (omega (arith, within))
set_here (y ∷ ys) zero x within = refl
set_here (y ∷ ys) (suc i) x within = set_here ys i x (omega (arith, within))

set_elsewhere : {A : Type 0} (xs : List A) (i j : ℕ) (x : A) → (i ≡ j → ⊥) → slice_get (slice_set xs i x) j ≡ slice_get xs j
set_elsewhere [] i j x differ = refl
set_elsewhere (y ∷ ys) zero zero x differ = absurd (differ refl)
set_elsewhere (y ∷ ys) zero (suc j) x differ = refl
set_elsewhere (y ∷ ys) (suc i) zero x differ = refl
set_elsewhere (y ∷ ys) (suc i) (suc j) x differ = set_elsewhere ys i j x (λ same. differ (ap suc same))

set_past : {A : Type 0} (xs : List A) (i : ℕ) (x : A) → length xs ≤ i → slice_set xs i x ≡ xs
set_past [] i x past = refl
set_past (y ∷ ys) zero x past = absurd (omega (arith, past))
set_past (y ∷ ys) (suc i) x past = ap (λ (zs : List _). y ∷ zs) (set_past ys i x (omega (arith, past)))

-- ---- acts of other connections

-- a change of another connection
changed_elsewhere : (i j : ℕ) (change : Connected → Connected) (p : Place) → (i ≡ j → ⊥) → p ≡ changed (i == j) change p
changed_elsewhere i j change p differ = λ k. changed (sym (other_index i j differ) k) change p

follow_same : (index : ℕ) (a b : Place) (acts : List Act) → a ≡ b → Follows index a acts a → Follows index b acts a
follow_same index a b acts same follows = subst (λ (p : Place). Follows index p acts a) same follows

-- what happens on another connection leaves this one
pub elsewhere : (index other : ℕ) (p : Place) (acts : List Act) → (other ≡ index → ⊥) → AllByRecursion (IsOfStream other) acts → Follows index p acts p
elsewhere index other p [] differ all = refl
elsewhere index other p (By (Connection stream) call ∷ acts) differ all =
    let apart = λ (same : stream ≡ index). differ (sym all.0 ∙ same) in
    ((λ same. absurd (apart same)), follow_same index p _ acts (changed_elsewhere stream index (call_after call) p apart) (elsewhere index other p acts differ all.1))
elsewhere index other p (By (Socket socket) call ∷ acts) differ all = absurd all.0
elsewhere index other p (By Nowhere call ∷ acts) differ all = absurd all.0
elsewhere index other p (At (Read stream bytes) ∷ acts) differ all =
    let apart = λ (same : stream ≡ index). differ (sym all.0 ∙ same) in
    ((λ same. absurd (apart same)), follow_same index p _ acts (changed_elsewhere stream index (read_after bytes) p apart) (elsewhere index other p acts differ all.1))
elsewhere index other p (At (Written stream bytes) ∷ acts) differ all =
    let apart = λ (same : stream ≡ index). differ (sym all.0 ∙ same) in
    ((λ same. absurd (apart same)), follow_same index p _ acts (changed_elsewhere stream index (written_after bytes) p apart) (elsewhere index other p acts differ all.1))
elsewhere index other p (At (Received socket bytes peer) ∷ acts) differ all = absurd all.0
elsewhere index other p (At (Unreceived socket) ∷ acts) differ all = absurd all.0
elsewhere index other p (At (Sent socket bytes peer taken) ∷ acts) differ all = absurd all.0
elsewhere index other p (At (Accepted listener peer) ∷ acts) differ all = absurd all.0
elsewhere index other p (At (Admitted stream admitted) ∷ acts) differ all = absurd all.0
elsewhere index other p (At (Closed stream) ∷ acts) differ all = absurd all.0
elsewhere index other p (At (Clocked moment) ∷ acts) differ all = (tt, elsewhere index other p acts differ all.1)
elsewhere index other p (At (Waited most) ∷ acts) differ all = absurd all.0
elsewhere index other p (At (Woken wake) ∷ acts) differ all = absurd all.0

-- ---- tables

-- acts after others
pub followed_both : (a b c : List (Option Stream)) (xs ys : List Act) → AreFollowed a b xs → AreFollowed b c ys → AreFollowed a c (xs ++ ys)
followed_both a b c xs ys first next = λ index accepted.
    let mid = first index accepted in
    let end = next index mid.0 in
    (end.0, follows_both index (place_in a index accepted) (place_in b index mid.0) (place_in c index end.0) xs ys mid.1 end.1)

-- nothing happens
pub kept_followed : (a b : List (Option Stream)) → AreKept a b → AreFollowedAside a b []
kept_followed a b kept = λ index accepted. λ j. record { accepted = accepted; connection = sym (kept index) j }

-- the table after what happens on no connection
pub followed_kept : (a b c : List (Option Stream)) (acts : List Act) → AreFollowed a b acts → AreKept b c → AreFollowed a c acts
followed_kept a b c acts follows kept = λ index accepted.
    let mid = follows index accepted in
    (mid.0, subst (λ (connection : Option Connected). Follows index (place_in a index accepted) acts (record { accepted = mid.0; connection = connection })) (sym (kept index)) mid.1)

-- nothing is at an index whose connection is closed
none_at : (slots : List (Option Stream)) (index : ℕ) → connection_at (closed_at slots index) index ≡ None
none_at slots index = by (nat_lt index (length slots)) refl
  where
    by : (b : Bool) → nat_lt index (length slots) ≡ b → connection_at (closed_at slots index) index ≡ None
    by true e = ap connection_in (set_here slots index None (ltb-true index (length slots) e))
    by false e =
        let past = ltb-false index (length slots) e in
        ap (λ (zs : List (Option Stream)). connection_at zs index) (set_past slots index None (omega (arith, past))) ∙ ap connection_in (slice_get_past slots index (omega (arith, past)))

-- the connection of an index once one is closed
closed_is : (slots : List (Option Stream)) (stream index : ℕ) (connection : Option Connected) → ((stream ≡ index → ⊥) → connection ≡ connection_at slots index)
    → closed (stream == index) connection ≡ connection_at (closed_at slots stream) index
closed_is slots stream index connection others = by (same_or_other stream index)
  where
    by : (stream ≡ index) ⊎ (stream ≡ index → ⊥) → closed (stream == index) connection ≡ connection_at (closed_at slots stream) index
    by (inl same) =
        ap (λ (b : Bool). closed b connection) (ap (λ (i : ℕ). i == index) same ∙ same_index index) ∙ sym (none_at slots index) ∙ ap (λ (i : ℕ). connection_at (closed_at slots i) index) (sym same)
    by (inr differ) =
        ap (λ (b : Bool). closed b connection) (other_index stream index differ) ∙ others differ ∙ ap connection_in (sym (set_elsewhere slots stream index None differ))

-- a connection is closed after acts
closed_after : (mid : List (Option Stream)) (stream index : ℕ) (p : Place) (accepted : Option SocketAddr) (connection : Option Connected) (acts : List Act) → ((stream ≡ index → ⊥) → connection ≡ connection_at mid index)
    → Follows index p acts (record { accepted = accepted; connection = connection }) → Follows index p (acts ++ At (Closed stream) ∷ []) (place_in (closed_at mid stream) index accepted)
closed_after mid stream index p accepted connection acts others follows =
    follows_both index p (record { accepted = accepted; connection = connection }) (place_in (closed_at mid stream) index accepted) acts (At (Closed stream) ∷ []) follows
    (tt, λ j. record { accepted = accepted; connection = closed_is mid stream index connection others j })

-- a connection is closed
pub closed_followed : (slots : List (Option Stream)) (stream : ℕ) → AreFollowedAside slots (closed_at slots stream) (At (Closed stream) ∷ [])
closed_followed slots stream = λ index accepted. closed_after slots stream index (place_in slots index accepted) accepted (connection_at slots index) [] (λ differ. refl) refl

-- what happens on the connection of an index
pub stream_followed : (slots new : List (Option Stream)) (stream : ℕ) (s after : Stream) (acts : List Act) → slice_get slots stream ≡ Some (Some s) → new ≡ slice_set slots stream (Some after)
    → AllByRecursion (IsOfStream stream) acts → Leaves false stream (connection_of s) acts (connection_of after) → AreFollowed slots new acts
stream_followed slots new stream s after acts here is all leaves = λ index accepted. (accepted, by index accepted (same_or_other stream index))
  where
    by : (index : ℕ) (accepted : Option SocketAddr) → (stream ≡ index) ⊎ (stream ≡ index → ⊥) → Follows index (place_in slots index accepted) acts (place_in new index accepted)
    by index accepted (inl same) =
        let found = ap (λ (zs : List (Option Stream)). slice_get zs stream) is ∙ set_here slots stream (Some after) (slice_get_within slots stream (Some s) here) in
        subst (λ (i : ℕ). Follows i (place_in slots i accepted) acts (place_in new i accepted)) same
        (subst (λ (left : Option Connected). Follows stream (place_in slots stream accepted) acts (record { accepted = accepted; connection = left })) (sym (ap connection_in found))
        (subst (λ (at : Option Connected). Follows stream (record { accepted = accepted; connection = at }) acts (place accepted (connection_of after))) (sym (ap connection_in here)) (leaves accepted)))
    by index accepted (inr differ) =
        subst (λ (left : Option Connected). Follows index (place_in slots index accepted) acts (record { accepted = accepted; connection = left }))
        (ap connection_in (sym (ap (λ (zs : List (Option Stream)). slice_get zs index) is ∙ set_elsewhere slots stream index (Some after) differ)))
        (elsewhere index stream (place_in slots index accepted) acts differ all)

-- what happens on the connection of an index before it is closed
pub stream_closed : (slots mid : List (Option Stream)) (stream : ℕ) (s after : Stream) (acts : List Act) → slice_get slots stream ≡ Some (Some s) → mid ≡ slice_set slots stream (Some after)
    → AllByRecursion (IsOfStream stream) acts → Leaves true stream (connection_of s) acts (connection_of after) → AreFollowed slots (closed_at mid stream) (acts ++ At (Closed stream) ∷ [])
stream_closed slots mid stream s after acts here is all leaves = λ index accepted. (accepted, by index accepted (same_or_other stream index))
  where
    by : (index : ℕ) (accepted : Option SocketAddr) → (stream ≡ index) ⊎ (stream ≡ index → ⊥) → Follows index (place_in slots index accepted) (acts ++ At (Closed stream) ∷ []) (place_in (closed_at mid stream) index accepted)
    by index accepted (inl same) =
        let left = leaves accepted in
        subst (λ (i : ℕ). Follows i (place_in slots i accepted) (acts ++ At (Closed stream) ∷ []) (place_in (closed_at mid stream) i accepted)) same
        (closed_after mid stream stream (place_in slots stream accepted) accepted (Some left.0) acts (λ differ. absurd (differ refl))
        (subst (λ (at : Option Connected). Follows stream (record { accepted = accepted; connection = at }) acts (place accepted left.0)) (sym (ap connection_in here)) left.1))
    by index accepted (inr differ) =
        closed_after mid stream index (place_in slots index accepted) accepted (connection_at slots index) acts
        (λ apart. ap connection_in (sym (ap (λ (zs : List (Option Stream)). slice_get zs index) is ∙ set_elsewhere slots stream index (Some after) apart)))
        (elsewhere index stream (place_in slots index accepted) acts differ all)

-- ---- connections that are admitted

-- one is put where there was none
pub admitted_followed : (slots : List (Option Stream)) (stream : ℕ) (s : Stream) (peer : SocketAddr) → slice_get slots stream ≡ Some None → connection_of s ≡ connected peer
    → IsAdmitted peer slots (slice_set slots stream (Some s)) (At (Admitted stream true) ∷ [])
admitted_followed slots stream s peer vacant is = λ index. (None, ((refl, λ same. ap connection_in (ap (slice_get slots) (sym same) ∙ vacant)), by index (same_or_other stream index)))
  where
    by : (index : ℕ) → (stream ≡ index) ⊎ (stream ≡ index → ⊥) → event_after index (Admitted stream true) (place_in slots index (Some peer)) ≡ place_in (slice_set slots stream (Some s)) index None
    by index (inl same) =
        let found = ap (λ (i : ℕ). slice_get (slice_set slots stream (Some s)) i) (sym same) ∙ set_here slots stream (Some s) (slice_get_within slots stream None vacant) in
        λ j. record {
          accepted = None;
          connection = (ap (λ (b : Bool). admitted b true (place_in slots index (Some peer))) (ap (λ (i : ℕ). i == index) same ∙ same_index index) ∙ ap Some (sym is) ∙ sym (ap connection_in found)) j;
        }
    by index (inr differ) = λ j. record {
      accepted = None;
      connection = (ap (λ (b : Bool). admitted b true (place_in slots index (Some peer))) (other_index stream index differ) ∙ ap connection_in (sym (set_elsewhere slots stream index (Some s) differ))) j;
    }

-- one cannot be admitted
pub unadmitted_followed : (slots : List (Option Stream)) (stream : ℕ) (peer : SocketAddr) → slice_get slots stream ≡ Some None → IsAdmitted peer slots slots (At (Admitted stream false) ∷ [])
unadmitted_followed slots stream peer vacant = λ index. (
  None,
  (
    (refl, λ same. ap connection_in (ap (slice_get slots) (sym same) ∙ vacant)),
    λ j. record {
      accepted = None;
      connection = by index (stream == index) j;
    },
  ),
)
  where
    by : (index : ℕ) (b : Bool) → admitted b false (place_in slots index (Some peer)) ≡ connection_at slots index
    by index true = refl
    by index false = refl

-- after what happened before that
pub admitted_then : (peer : SocketAddr) (a b c : List (Option Stream)) (xs ys : List Act) → AreFollowedAside a b xs → IsAdmitted peer b c ys → IsAdmitted peer a c (xs ++ ys)
admitted_then peer a b c xs ys first next = λ index.
    let end = next index in
    (end.0, follows_both index (place_in a index (Some peer)) (place_in b index (Some peer)) (place_in c index end.0) xs ys (first index (Some peer)) end.1)

-- none is admitted
pub vacated_admitted : (peer : SocketAddr) (a b : List (Option Stream)) (xs : List Act) → AreFollowedAside a b xs → IsAdmitted peer a b xs
vacated_admitted peer a b xs follows = λ index. (Some peer, follows index (Some peer))

-- a peer is accepted, and its connection is admitted
pub accepted_then : (listener : ℕ) (peer : SocketAddr) (a b : List (Option Stream)) (acts : List Act) → IsAdmitted peer a b acts → AreFollowed a b (At (Accepted listener (Some peer)) ∷ acts)
accepted_then listener peer a b acts admits = λ index accepted. let end = admits index in (end.0, (tt, end.1))

-- no peer is accepted
pub unaccepted_followed : (listener : ℕ) (a : List (Option Stream)) → AreFollowed a a (At (Accepted listener None) ∷ [])
unaccepted_followed listener a = λ index accepted. (None, (tt, refl))

pub aside_followed : (a b : List (Option Stream)) (acts : List Act) → AreFollowedAside a b acts → AreFollowed a b acts
aside_followed a b acts aside = λ index accepted. (accepted, aside index accepted)

-- ---- places

-- a place without a connection at the end
pub vacant_end : (xs new : List (Option Stream)) (count : ℕ) → new ≡ xs ++ None ∷ [] → count ≡ length xs → slice_get new count ≡ Some None
vacant_end xs new count is len = ap (λ (zs : List (Option Stream)). slice_get zs count) is ∙ ap (slice_get (xs ++ None ∷ [])) len ∙ at_end xs
  where
    at_end : (ys : List (Option Stream)) → slice_get (ys ++ None ∷ []) (length ys) ≡ Some None
    at_end [] = refl
    at_end (y ∷ ys) = at_end ys

-- it changes no connection
pub grown_kept : (xs new : List (Option Stream)) → new ≡ xs ++ None ∷ [] → AreKept xs new
grown_kept xs new is = λ index. ap (λ (zs : List (Option Stream)). connection_at zs index) is ∙ with_none xs index
  where
    with_none : (ys : List (Option Stream)) (index : ℕ) → connection_at (ys ++ None ∷ []) index ≡ connection_at ys index
    with_none [] zero = refl
    with_none [] (suc index) = refl
    with_none (y ∷ ys) zero = refl
    with_none (y ∷ ys) (suc index) = with_none ys index

-- where there are places, one is that of the least active connection
pub least_within : (slots : List (Option Stream)) (index : ℕ) → 0 < length slots → IsLeastActive slots index → index < length slots
least_within [] index some least = absurd (omega (arith, some))
least_within (y ∷ ys) index some least = by (slice_get (y ∷ ys) index) refl (least 0 y refl)
  where
    by : (o : Option (Option Stream)) → slice_get (y ∷ ys) index ≡ o → IsSomeAnd o (λ at. is_less_active y at ≡ false) → index < length (y ∷ ys)
    by None is one = absurd one
    by (Some at) is one = slice_get_within (y ∷ ys) index at is

-- it is without a connection once this is closed
pub none_set : (slots new : List (Option Stream)) (index : ℕ) → index < length slots → new ≡ closed_at slots index → slice_get new index ≡ Some None
none_set slots new index within is = ap (λ (zs : List (Option Stream)). slice_get zs index) is ∙ set_here slots index None within

-- ---- events of listeners

module _ {S : Type 0} (performs : S → WorldEvent → S → Type 0) where
  -- no event
  pub heard_none : (a : List (Option Stream)) (w : S) → Performs performs w w (λ es. AllByRecursion IsAsideEvent es × AreFollowed a a (map At es))
  heard_none a w = record { events = []; led = refl; holds = (tt, λ index accepted. (accepted, refl)) }

  -- one event
  pub heard_one : (a b : List (Option Stream)) (w w1 : S) (event : WorldEvent) → performs w event w1 → IsAsideEvent event → AreFollowed a b (At event ∷ [])
      → Performs performs w w1 (λ es. AllByRecursion IsAsideEvent es × AreFollowed a b (map At es))
  heard_one a b w w1 event step is follows = record { events = event ∷ []; led = (w1, (step, refl)); holds = ((is, tt), follows) }

  -- events after others
  pub heard_then : (a b c : List (Option Stream)) (w w1 w2 : S) → Performs performs w w1 (λ es. AllByRecursion IsAsideEvent es × AreFollowed a b (map At es))
      → Performs performs w1 w2 (λ es. AllByRecursion IsAsideEvent es × AreFollowed b c (map At es)) → Performs performs w w2 (λ es. AllByRecursion IsAsideEvent es × AreFollowed a c (map At es))
  heard_then a b c w w1 w2 first next = record {
    events = first.events ++ next.events;
    led = led_both performs w w1 w2 first.events next.events first.led next.led;
    holds = (
      all_more IsAsideEvent first.events next.events first.holds.0 next.holds.0,
      subst (λ (acts : List Act). AreFollowed a c acts) (sym (map-append At first.events next.events)) (followed_both a b c (map At first.events) (map At next.events) first.holds.1 next.holds.1),
    );
  }

  -- a connection is admitted, or cannot be, once there is a place for it
  pub admitted_at : (is_admitted : Bool) (peer : SocketAddr) (a b c : List (Option Stream)) (stream : ℕ) (w w1 w2 : S) → Performs performs w w1 (λ es. AllByRecursion IsAsideEvent es × AreFollowedAside a b (map At es))
      → performs w1 (Admitted stream is_admitted) w2 → IsAdmitted peer b c (At (Admitted stream is_admitted) ∷ []) → Performs performs w w2 (λ es. AllByRecursion IsAsideEvent es × IsAdmitted peer a c (map At es))
  admitted_at is_admitted peer a b c stream w w1 w2 vacated step admits = record {
    events = vacated.events ++ Admitted stream is_admitted ∷ [];
    led = led_both performs w w1 w2 vacated.events (Admitted stream is_admitted ∷ []) vacated.led (w2, (step, refl));
    holds = (
      all_more IsAsideEvent vacated.events (Admitted stream is_admitted ∷ []) vacated.holds.0 (tt, tt),
      subst (λ (acts : List Act). IsAdmitted peer a c acts) (sym (map-append At vacated.events (Admitted stream is_admitted ∷ [])))
          (admitted_then peer a b c (map At vacated.events) (At (Admitted stream is_admitted) ∷ []) vacated.holds.1 admits),
    );
  }

-- ---- what connections do

module _ {S H : Type 0} (performs : S → WorldEvent → S → Type 0) (steps : H → HandlerEvent → H → Type 0) where
  -- what happens on connections
  abbrev pub OnStreams : S → H → S → H → List (Option Stream) → List (Option Stream) → Type 0
  OnStreams w h w1 h1 a b = Traces performs steps w h w1 h1 (λ acts. AllByRecursion IsAside acts × AreFollowed a b acts × IsTimed acts)

  -- nothing
  pub on_none : (a : List (Option Stream)) (w : S) (h : H) → OnStreams w h w h a a
  on_none a w h = record { acts = []; leads = (refl, refl); holds = (tt, λ index accepted. (accepted, refl), timed_none) }

  -- acts after others
  pub on_then : (a b c : List (Option Stream)) (w w1 w2 : S) (h h1 h2 : H) → OnStreams w h w1 h1 a b → OnStreams w1 h1 w2 h2 b c → OnStreams w h w2 h2 a c
  on_then a b c w w1 w2 h h1 h2 first next = record {
    acts = first.acts ++ next.acts;
    leads = leads_both performs steps w w1 w2 h h1 h2 first.acts next.acts first.leads next.leads;
    holds = (
      all_more IsAside first.acts next.acts first.holds.0 next.holds.0,
      followed_both a b c first.acts next.acts first.holds.1 next.holds.1,
      timed_both first.acts next.acts first.holds.2 next.holds.2,
    );
  }

  -- a table whose connections are as they were
  pub on_kept : (a b c : List (Option Stream)) (w w1 : S) (h h1 : H) → OnStreams w h w1 h1 a b → AreKept b c → OnStreams w h w1 h1 a c
  on_kept a b c w w1 h h1 happened kept = record { acts = happened.acts; leads = happened.leads; holds = (happened.holds.0, followed_kept a b c happened.acts happened.holds.1 kept, happened.holds.2) }

  -- a reading of the clock
  pub on_clock : (a : List (Option Stream)) (w w1 : S) (h : H) (now : Result ℕ Error) → performs w (clock_event now) w1 → OnStreams w h w1 h a a
  on_clock a w w1 h now step = record { acts = At (clock_event now) ∷ []; leads = (w1, (step, (refl, refl))); holds = ((clock_is now, tt), λ index accepted. (accepted, by now index accepted), λ shown. (tt, tt)) }
    where
      by : (n : Result ℕ Error) (index : ℕ) (accepted : Option SocketAddr) → Follows index (place_in a index accepted) (At (clock_event n) ∷ []) (place_in a index accepted)
      by (Ok moment) index accepted = (tt, refl)
      by (Err error) index accepted = (tt, refl)

  -- a connection goes on
  pub on_stream : (slots new : List (Option Stream)) (stream : ℕ) (s after : Stream) (w w1 : S) (h h1 : H) → slice_get slots stream ≡ Some (Some s) → new ≡ slice_set slots stream (Some after)
      → Traces performs steps w h w1 h1 (λ acts. AllByRecursion (IsOfStream stream) acts × Leaves false stream (connection_of s) acts (connection_of after) × IsTimed acts) → OnStreams w h w1 h1 slots new
  on_stream slots new stream s after w w1 h h1 here is happened = record {
    acts = happened.acts;
    leads = happened.leads;
    holds = (of_stream_is_aside stream happened.acts happened.holds.0, stream_followed slots new stream s after happened.acts here is happened.holds.0 happened.holds.1, happened.holds.2);
  }

  -- a connection goes on, and is closed
  pub on_closed : (slots mid new : List (Option Stream)) (stream : ℕ) (s after : Stream) (w w1 w2 : S) (h h1 : H) → slice_get slots stream ≡ Some (Some s) → mid ≡ slice_set slots stream (Some after)
      → Traces performs steps w h w1 h1 (λ acts. AllByRecursion (IsOfStream stream) acts × Leaves true stream (connection_of s) acts (connection_of after) × IsTimed acts) → performs w1 (Closed stream) w2 → new ≡ closed_at mid stream
      → OnStreams w h w2 h1 slots new
  on_closed slots mid new stream s after w w1 w2 h h1 here is happened step closed = record {
    acts = happened.acts ++ At (Closed stream) ∷ [];
    leads = leads_both performs steps w w1 w2 h h1 h1 happened.acts (At (Closed stream) ∷ []) happened.leads (w2, (step, (refl, refl)));
    holds = (
      all_more IsAside happened.acts (At (Closed stream) ∷ []) (of_stream_is_aside stream happened.acts happened.holds.0) (tt, tt),
      subst (λ (left : List (Option Stream)). AreFollowed slots left (happened.acts ++ At (Closed stream) ∷ [])) (sym closed)
          (stream_closed slots mid stream s after happened.acts here is happened.holds.0 happened.holds.1),
      timed_both happened.acts (At (Closed stream) ∷ []) happened.holds.2 (λ shown. (tt, tt)),
    );
  }

-- what is there is put there again
pub set_kept : (slots : List (Option Stream)) (index : ℕ) (slot : Option Stream) → slice_get slots index ≡ Some slot → AreKept slots (slice_set slots index slot)
set_kept slots at slot here = λ index. by index (same_or_other at index)
  where
    by : (index : ℕ) → (at ≡ index) ⊎ (at ≡ index → ⊥) → connection_at (slice_set slots at slot) index ≡ connection_at slots index
    by index (inl same) =
        subst (λ (i : ℕ). connection_at (slice_set slots at slot) i ≡ connection_at slots i) same
        (ap connection_in (set_here slots at slot (slice_get_within slots at slot here) ∙ sym here))
    by index (inr differ) = ap connection_in (set_elsewhere slots at index slot differ)
