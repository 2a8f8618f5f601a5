-- Events and acts, one after another.
use Rattle.std.proofs.Common.{◌≡◌, ◌∙◌, ◌+◌, ℕ, List, [], ◌∷◌, ◌++◌, length, map, take, Some, None, inl, inr, refl, sym, ap, subst, arith}
use Rattle.std.specs.List.{AllByRecursion}
use Rattle.std.specs.Prelude.{Result, Ok, Err}
use Rattle.std.specs.declared.io.Error.{Error}
use Rattle.std.specs.declared.net.socket_addr.SocketAddr.{SocketAddr}
use Rattle.dns_sockets.specs.Events.{Led, Performs}
use Rattle.dns_sockets.specs.Handler.{HandlerEvent}
use Rattle.dns_sockets.specs.Trace.{Act, At, By, Connection, IsAside, IsAsideEvent, IsEventOf, IsOfStream, Leads, MayRead, Nowhere, Origin, Socket, Traces}
use Rattle.dns_sockets.specs.World.{WorldEvent, Accepted, Admitted, AreCopies, Clocked, Closed, IsSent, Read, Received, Sent, Unreceived, Waited, Woken, Written, accept_event, clock_event, read_event, write_event}
use Rattle.dns_sockets.specs.declared.world.Arrival.{Arrival}
use Rattle.dns_sockets.specs.declared.world.Arrival.TheVariants as arrivals
use Rattle.dns_sockets.specs.declared.world.Progress.{Progress}
use Rattle.dns_sockets.specs.declared.world.Progress.TheVariants as progresses

module _ {S E : Type 0} (performs : S → E → S → Type 0) where
  -- one more event
  pub led_more : (old mid new : S) (es : List E) (e : E) → Led performs old es mid → performs mid e new → Led performs old (es ++ e ∷ []) new
  led_more old mid new [] e led step = (new, (subst (λ (s : S). performs s e new) (sym led) step, refl))
  led_more old mid new (x ∷ es) e led step = (led.0, (led.1.0, led_more led.0 mid new es e led.1.1 step))

  -- events after others
  pub led_both : (old mid new : S) (es fs : List E) → Led performs old es mid → Led performs mid fs new → Led performs old (es ++ fs) new
  led_both old mid new [] fs led more = subst (λ (s : S). Led performs s fs new) (sym led) more
  led_both old mid new (x ∷ es) fs led more = (led.0, (led.1.0, led_both led.0 mid new es fs led.1.1 more))

module _ {S H : Type 0} (performs : S → WorldEvent → S → Type 0) (steps : H → HandlerEvent → H → Type 0) where
  -- events of the world alone
  pub leads_at : (w new : S) (h : H) (es : List WorldEvent) → Led performs w es new → Leads performs steps w h (map At es) new h
  leads_at w new h [] led = (led, refl)
  leads_at w new h (e ∷ es) led = (led.0, (led.1.0, leads_at led.0 new h es led.1.1))

  -- calls of a handler alone
  pub leads_by : (origin : Origin) (w : S) (h after : H) (es : List HandlerEvent) → Led steps h es after → Leads performs steps w h (map (By origin) es) w after
  leads_by origin w h after [] led = (refl, led)
  leads_by origin w h after (e ∷ es) led = (led.0, (led.1.0, leads_by origin w led.0 after es led.1.1))

  -- acts after others
  pub leads_both : (w w1 w2 : S) (h h1 h2 : H) (acts more : List Act) → Leads performs steps w h acts w1 h1 → Leads performs steps w1 h1 more w2 h2
      → Leads performs steps w h (acts ++ more) w2 h2
  leads_both w w1 w2 h h1 h2 [] more first rest =
      subst (λ (s : S). Leads performs steps s h more w2 h2) (sym first.0) (subst (λ (k : H). Leads performs steps w1 k more w2 h2) (sym first.1) rest)
  leads_both w w1 w2 h h1 h2 (At e ∷ acts) more first rest = (first.0, (first.1.0, leads_both first.0 w1 w2 h h1 h2 acts more first.1.1 rest))
  leads_both w w1 w2 h h1 h2 (By o e ∷ acts) more first rest = (first.0, (first.1.0, leads_both w w1 w2 first.0 h1 h2 acts more first.1.1 rest))

  -- events of the world, and then calls of a handler
  pub leads_consulted : (origin : Origin) (w w1 : S) (h h1 : H) (es : List WorldEvent) (calls : List HandlerEvent) → Led performs w es w1 → Led steps h calls h1
      → Leads performs steps w h (map At es ++ map (By origin) calls) w1 h1
  leads_consulted origin w w1 h h1 es calls led called =
      leads_both w w1 w1 h h h1 (map At es) (map (By origin) calls) (leads_at w w1 h es led) (leads_by origin w1 h h1 calls called)

sent_more : (socket : ℕ) (bytes : List ℕ) (peer : SocketAddr) (es : List WorldEvent) (e : WorldEvent) → AllByRecursion (IsSent socket bytes peer) es → IsSent socket bytes peer e
    → AllByRecursion (IsSent socket bytes peer) (es ++ e ∷ [])
sent_more socket bytes peer [] e all one = (one, tt)
sent_more socket bytes peer (x ∷ es) e all one = (all.0, sent_more socket bytes peer es e all.1 one)

one_longer : (es : List WorldEvent) (e : WorldEvent) → length (es ++ e ∷ []) ≡ length es + 1
one_longer [] e = refl
one_longer (x ∷ es) e = let more = one_longer es e in omega (arith, more)

-- one more copy
pub copies_more : (socket count : ℕ) (bytes : List ℕ) (peer : SocketAddr) (es : List WorldEvent) (e : WorldEvent) → AreCopies socket count bytes peer es → IsSent socket bytes peer e
    → AreCopies socket (count + 1) bytes peer (es ++ e ∷ [])
copies_more socket count bytes peer es e copies one = (one_longer es e ∙ ap (λ (n : ℕ). n + 1) copies.0, sent_more socket bytes peer es e copies.1 one)

-- ---- all acts

-- all have another property
pub all_become : {A : Type 0} (P Q : A → Type 0) → ((x : A) → P x → Q x) → (xs : List A) → AllByRecursion P xs → AllByRecursion Q xs
all_become P Q each [] all = tt
all_become P Q each (x ∷ xs) all = (each x all.0, all_become P Q each xs all.1)

pub all_more : {A : Type 0} (P : A → Type 0) (xs ys : List A) → AllByRecursion P xs → AllByRecursion P ys → AllByRecursion P (xs ++ ys)
all_more P [] ys first rest = rest
all_more P (x ∷ xs) ys first rest = (first.0, all_more P xs ys first.1 rest)

module _ {S H : Type 0} (performs : S → WorldEvent → S → Type 0) (steps : H → HandlerEvent → H → Type 0) where
  -- acts after others, of which all have P
  pub traces_all : (P : Act → Type 0) (w w1 w2 : S) (h h1 h2 : H) → Traces performs steps w h w1 h1 (AllByRecursion P) → Traces performs steps w1 h1 w2 h2 (AllByRecursion P)
      → Traces performs steps w h w2 h2 (AllByRecursion P)
  traces_all P w w1 w2 h h1 h2 first then = record {
    acts = first.acts ++ then.acts;
    leads = leads_both performs steps w w1 w2 h h1 h2 first.acts then.acts first.leads then.leads;
    holds = all_more P first.acts then.acts first.holds then.holds;
  }

  -- an act is left out, or all have another property
  pub all_are : {A B : Type 0} (P : A → Type 0) (Q : B → Type 0) (f : A → B) → ((x : A) → P x → Q (f x)) → (xs : List A) → AllByRecursion P xs → AllByRecursion Q (map f xs)
  all_are P Q f each [] all = tt
  all_are P Q f each (x ∷ xs) all = (each x all.0, all_are P Q f each xs all.1)

  pub all_as : {A B : Type 0} (Q : B → Type 0) (f : A → B) → ((x : A) → Q (f x)) → (xs : List A) → AllByRecursion Q (map f xs)
  all_as Q f each [] = tt
  all_as Q f each (x ∷ xs) = (each x, all_as Q f each xs)

  -- nothing happens
  pub nothing : (P : Act → Type 0) (w : S) (h : H) → Traces performs steps w h w h (AllByRecursion P)
  nothing P w h = record { acts = []; leads = (refl, refl); holds = tt }

  -- one event of the world
  pub one_event : (P : Act → Type 0) (w w1 : S) (h : H) (e : WorldEvent) → performs w e w1 → P (At e) → Traces performs steps w h w1 h (AllByRecursion P)
  one_event P w w1 h e step is = record { acts = At e ∷ []; leads = (w1, (step, (refl, refl))); holds = (is, tt) }

  -- events of the world
  pub all_events : (P : Act → Type 0) (Q : WorldEvent → Type 0) (w w1 : S) (h : H) → ((e : WorldEvent) → Q e → P (At e)) → Performs performs w w1 (AllByRecursion Q) → Traces performs steps w h w1 h (AllByRecursion P)
  all_events P Q w w1 h each happened = record {
    acts = map At happened.events;
    leads = leads_at performs steps w w1 h happened.events happened.led;
    holds = all_are Q P At each happened.events happened.holds;
  }

  -- calls of a handler
  pub all_calls : (P : Act → Type 0) (Q : List HandlerEvent → Type 0) (origin : Origin) (w : S) (h h1 : H) → ((e : HandlerEvent) → P (By origin e)) → Performs steps h h1 Q → Traces performs steps w h w h1 (AllByRecursion P)
  all_calls P Q origin w h h1 each called = record {
    acts = map (By origin) called.events;
    leads = leads_by performs steps origin w h h1 called.events called.led;
    holds = all_as P (By origin) each called.events;
  }

-- a write is an event of its connection
pub write_is : (index : ℕ) (progress : Progress) (bytes : List ℕ) → IsEventOf index (write_event index progress bytes)
write_is index (progresses.Bytes count) bytes = refl
write_is index progresses.Interrupted bytes = refl
write_is index progresses.Nothing bytes = refl
write_is index progresses.Failed bytes = refl

-- and so is a read
pub read_is : (index : ℕ) (es : List WorldEvent) → MayRead index es → AllByRecursion (IsEventOf index) es
read_is index es (inl none) = subst (λ (l : List WorldEvent). AllByRecursion (IsEventOf index) l) (sym none) tt
read_is index es (inr one) = subst (λ (l : List WorldEvent). AllByRecursion (IsEventOf index) l) (sym one.1) (refl, tt)

-- a read of bytes or none
pub may_read : (index : ℕ) (progress : Progress) (bytes : List ℕ) → MayRead index (read_event index progress bytes ∷ [])
may_read index (progresses.Bytes count) bytes = inr (Some (take count bytes), refl)
may_read index progresses.Interrupted bytes = inr (None, refl)
may_read index progresses.Nothing bytes = inr (None, refl)
may_read index progresses.Failed bytes = inr (None, refl)

-- events after others, of which all have P
pub performs_all : {S E : Type 0} (performs : S → E → S → Type 0) (P : E → Type 0) (w w1 w2 : S) → Performs performs w w1 (AllByRecursion P) → Performs performs w1 w2 (AllByRecursion P) → Performs performs w w2 (AllByRecursion P)
performs_all performs P w w1 w2 first then = record {
  events = first.events ++ then.events;
  led = led_both performs w w1 w2 first.events then.events first.led then.led;
  holds = all_more P first.events then.events first.holds then.holds;
}

-- one event
pub performs_one : {S E : Type 0} (performs : S → E → S → Type 0) (P : E → Type 0) (w w1 : S) (e : E) → performs w e w1 → P e → Performs performs w w1 (AllByRecursion P)
performs_one performs P w w1 e step is = record { events = e ∷ []; led = (w1, (step, refl)); holds = (is, tt) }

-- no event
pub performs_none : {S E : Type 0} (performs : S → E → S → Type 0) (P : E → Type 0) (w : S) → Performs performs w w (AllByRecursion P)
performs_none performs P w = record { events = []; led = refl; holds = tt }

-- an act of a connection is about no datagram
pub of_stream_is_aside : (index : ℕ) (acts : List Act) → AllByRecursion (IsOfStream index) acts → AllByRecursion IsAside acts
of_stream_is_aside index [] all = tt
of_stream_is_aside index (At e ∷ acts) all = (event_is_aside index e all.0, of_stream_is_aside index acts all.1)
  where
    event_is_aside : (index : ℕ) (e : WorldEvent) → IsEventOf index e → IsAsideEvent e
    event_is_aside index (Read stream bytes) is = tt
    event_is_aside index (Written stream bytes) is = tt
    event_is_aside index (Received socket bytes peer) is = absurd is
    event_is_aside index (Unreceived socket) is = absurd is
    event_is_aside index (Sent socket bytes peer taken) is = absurd is
    event_is_aside index (Accepted listener peer) is = absurd is
    event_is_aside index (Admitted stream admitted) is = absurd is
    event_is_aside index (Closed stream) is = absurd is
    event_is_aside index (Clocked moment) is = tt
    event_is_aside index (Waited most) is = absurd is
    event_is_aside index (Woken wake) is = absurd is
of_stream_is_aside index (By (Connection stream) e ∷ acts) all = (tt, of_stream_is_aside index acts all.1)
of_stream_is_aside index (By (Socket socket) e ∷ acts) all = absurd all.0
of_stream_is_aside index (By Nowhere e ∷ acts) all = absurd all.0

-- what happens on a connection is about no datagram
pub stream_aside : {S H : Type 0} (performs : S → WorldEvent → S → Type 0) (steps : H → HandlerEvent → H → Type 0) (index : ℕ) (w w1 : S) (h h1 : H) → Traces performs steps w h w1 h1 (AllByRecursion (IsOfStream index))
    → Traces performs steps w h w1 h1 (AllByRecursion IsAside)
stream_aside performs steps index w w1 h h1 happened = record { acts = happened.acts; leads = happened.leads; holds = of_stream_is_aside index happened.acts happened.holds }

-- whatever a connection is accepted from, a clock shows
pub accept_is : (listener : ℕ) (arrival : Arrival) → IsAsideEvent (accept_event listener arrival)
accept_is listener (arrivals.Connection peer) = tt
accept_is listener arrivals.Interrupted = tt
accept_is listener arrivals.Nothing = tt
accept_is listener arrivals.Failed = tt

pub clock_is : (now : Result ℕ Error) → IsAsideEvent (clock_event now)
clock_is (Ok now) = tt
clock_is (Err error) = tt
