-- How acts begin and end, and how often a service waits in them.
use Rattle.std.proofs.Common.{◌≡◌, ◌∙◌, ◌+◌, ◌≤◌, ◌∷◌, ◌++◌, [], ℕ, Bool, List, Option, Some, false, map, subst, true, add_assoc, ap, arith, inl, inr, refl, sym, zero-add}
use Rattle.std.specs.Prelude.{Result, Ok, Err, OnOk}
use Rattle.std.proofs.lemmas.List.{append_assoc}
use Rattle.std.proofs.lemmas.List.{map-append}
use Rattle.dns_sockets.specs.Deadlines.{EndsWithWait}
use Rattle.dns_sockets.specs.Events.{Performs}
use Rattle.dns_sockets.specs.Handler.{HandlerEvent}
use Rattle.dns_sockets.specs.Service.{IsAskedUntil, IsOver, Known, Notes, StartsTurn, over, woken}
use Rattle.dns_sockets.specs.declared.world.Wake.{Wake}
use Rattle.dns_sockets.specs.declared.world.Wake.TheVariants as wakes
use Rattle.dns_sockets.specs.Rotation.{HasShare}
use Rattle.dns_sockets.specs.Stream.{later_by}
use Rattle.dns_sockets.specs.Trace.{Act, At, EndsWith, StartsWith, Traces, waits_in, waits_of}
use Rattle.dns_sockets.specs.World.{WorldEvent, Clocked, Waited, Woken}
use Rattle.dns_sockets.proofs.TraceLaws.{leads_at, leads_both}

-- what holds holds of a value
pub always_ok : {T E : Type 0} (r : Result T E) (P : Type 0) → P → OnOk r P
always_ok (Ok x) P p = p
always_ok (Err e) P p = tt

starts_more : (act : Act) (xs ys : List Act) → StartsWith act xs → StartsWith act (xs ++ ys)
starts_more act xs ys starts = (starts.0 ++ ys, ap (λ (zs : List Act). zs ++ ys) starts.1)

ends_after : (act : Act) (xs ys : List Act) → EndsWith act ys → EndsWith act (xs ++ ys)
ends_after act xs ys ends = (xs ++ ends.0, ap (λ (zs : List Act). xs ++ zs) ends.1 ∙ sym (append_assoc xs ends.0 (act ∷ [])))

-- how often a service waits in acts, and then in others
pub waits_both : (xs ys : List Act) → waits_in (xs ++ ys) ≡ waits_in xs + waits_in ys
waits_both [] ys = sym (zero-add (waits_in ys))
waits_both (x ∷ xs) ys = ap (λ (n : ℕ). waits_of x + n) (waits_both xs ys) ∙ sym (add_assoc (waits_of x) (waits_in xs) (waits_in ys))

module _ {S H : Type 0} (performs : S → WorldEvent → S → Type 0) (steps : H → HandlerEvent → H → Type 0) where
  -- acts begin as before if others follow
  pub starts_then : (act : Act) (P : List Act → Type 0) (w w1 w2 : S) (h h1 h2 : H) → Traces performs steps w h w1 h1 (StartsWith act) → Traces performs steps w1 h1 w2 h2 P
      → Traces performs steps w h w2 h2 (StartsWith act)
  starts_then act P w w1 w2 h h1 h2 first next = record {
    acts = first.acts ++ next.acts;
    leads = leads_both performs steps w w1 w2 h h1 h2 first.acts next.acts first.leads next.leads;
    holds = starts_more act first.acts next.acts first.holds;
  }

  -- acts end as the last of them do
  pub ends_then : (act : Act) (P : List Act → Type 0) (w w1 w2 : S) (h h1 h2 : H) → Traces performs steps w h w1 h1 P → Traces performs steps w1 h1 w2 h2 (EndsWith act)
      → Traces performs steps w h w2 h2 (EndsWith act)
  ends_then act P w w1 w2 h h1 h2 first next = record {
    acts = first.acts ++ next.acts;
    leads = leads_both performs steps w w1 w2 h h1 h2 first.acts next.acts first.leads next.leads;
    holds = ends_after act first.acts next.acts next.holds;
  }

  -- the time is over
  pub shares_early : (turns count start end : ℕ) (w w1 w2 : S) (h h1 h2 : H) → Traces performs steps w h w1 h1 (StartsWith (At (Clocked (Some start)))) → later_by start 5 ≤ end
      → Traces performs steps w1 h1 w2 h2 (EndsWith (At (Clocked (Some end)))) → Traces performs steps w h w2 h2 (HasShare turns count)
  shares_early turns count start end w w1 w2 h h1 h2 first past next = record {
    acts = first.acts ++ next.acts;
    leads = leads_both performs steps w w1 w2 h h1 h2 first.acts next.acts first.leads next.leads;
    holds = (start, (starts_more (At (Clocked (Some start))) first.acts next.acts first.holds, inr (end, (past, ends_after (At (Clocked (Some end))) first.acts next.acts next.holds))));
  }

  -- each place had its turn
  pub shares_all : (turns count start : ℕ) (w w1 : S) (h h1 : H) → turns ≡ count → Traces performs steps w h w1 h1 (StartsWith (At (Clocked (Some start))))
      → Traces performs steps w h w1 h1 (HasShare turns count)
  shares_all turns count start w w1 h h1 all first = record { acts = first.acts; leads = first.leads; holds = (start, (first.holds, inl all)) }

-- events that end with a wait are one at least
wait_is : (before : List WorldEvent) (most : Option ℕ) → 1 ≤ waits_in (map At (before ++ Waited most ∷ []))
wait_is before most =
    let parts = map-append At before (Waited most ∷ []) in
    let both = waits_both (map At before) (At (Waited most) ∷ []) in
    subst (λ (acts : List Act). 1 ≤ waits_in acts) (sym parts) (omega (arith, both))

waits_of_wait : (es : List WorldEvent) → EndsWithWait es → 1 ≤ waits_in (map At es)
waits_of_wait es ends = subst (λ (zs : List WorldEvent). 1 ≤ waits_in (map At zs)) (sym ends.2) (wait_is ends.0 ends.1)

-- once the world says that the service is to end, it is asked no more
end_is_last : (noted : List Wake) (ends : Bool) (es : List WorldEvent) → ends ≡ true → IsAskedUntil ends noted es → EndsWith over (map At es)
end_is_last noted true es is asked = (map At (map woken noted), ap (map At) asked ∙ map-append At (map woken noted) (Woken (Some wakes.End) ∷ []))
end_is_last noted false es is asked = absurd (cc)

module _ {S H : Type 0} (performs : S → WorldEvent → S → Type 0) (steps : H → HandlerEvent → H → Type 0) where
  pub waits_none : (w : S) (h : H) → Traces performs steps w h w h (λ acts. 0 ≤ waits_in acts)
  waits_none w h = record { acts = []; leads = (refl, refl); holds = omega arith }

  -- other acts follow
  pub waits_then : (count : ℕ) (P : List Act → Type 0) (w w1 w2 : S) (h h1 h2 : H) → Traces performs steps w h w1 h1 (λ acts. count ≤ waits_in acts) → Traces performs steps w1 h1 w2 h2 P
      → Traces performs steps w h w2 h2 (λ acts. count ≤ waits_in acts)
  waits_then count P w w1 w2 h h1 h2 first next = record {
    acts = first.acts ++ next.acts;
    leads = leads_both performs steps w w1 w2 h h1 h2 first.acts next.acts first.leads next.leads;
    holds = let both = waits_both first.acts next.acts in let before = first.holds in omega (arith, both, before);
  }

  -- another wait follows
  pub waits_more : (count : ℕ) (w w1 w2 : S) (h h1 h2 : H) → Traces performs steps w h w1 h1 (λ acts. count ≤ waits_in acts) → Traces performs steps w1 h1 w2 h2 (λ acts. 1 ≤ waits_in acts)
      → Traces performs steps w h w2 h2 (λ acts. count + 1 ≤ waits_in acts)
  waits_more count w w1 w2 h h1 h2 first next = record {
    acts = first.acts ++ next.acts;
    leads = leads_both performs steps w w1 w2 h h1 h2 first.acts next.acts first.leads next.leads;
    holds = let both = waits_both first.acts next.acts in let before = first.holds in let one = next.holds in omega (arith, both, before, one);
  }

  -- a wait, and what is noted after it
  pub turn_waits : (P : List WorldEvent → Type 0) (w w1 w2 : S) (h : H) → Performs performs w w1 EndsWithWait → Performs performs w1 w2 P
      → Traces performs steps w h w2 h (λ acts. 1 ≤ waits_in acts)
  turn_waits P w w1 w2 h waited noted = record {
    acts = map At waited.events ++ map At noted.events;
    leads = leads_both performs steps w w1 w2 h h h (map At waited.events) (map At noted.events) (leads_at performs steps w w1 h waited.events waited.led) (leads_at performs steps w1 w2 h noted.events noted.led);
    holds = let both = waits_both (map At waited.events) (map At noted.events) in let one = waits_of_wait waited.events waited.holds in omega (arith, both, one);
  }

  -- the world said that the service is to end
  pub turn_over : (P : List WorldEvent → Type 0) (ends : Bool) (old new : Known) (w w1 w2 : S) (h : H) → Performs performs w w1 P → Performs performs w1 w2 (λ es. Notes ends old es new)
      → ends ≡ true → Traces performs steps w h w2 h (EndsWith over)
  turn_over P ends old new w w1 w2 h waited noted is = record {
    acts = map At waited.events ++ map At noted.events;
    leads = leads_both performs steps w w1 w2 h h h (map At waited.events) (map At noted.events) (leads_at performs steps w w1 h waited.events waited.led) (leads_at performs steps w1 w2 h noted.events noted.led);
    holds = ends_after over (map At waited.events) (map At noted.events) (end_is_last noted.holds.noted ends noted.events is noted.holds.asked);
  }

  pub is_over_at : (P : List Act → Type 0) (w w1 w2 : S) (h h1 h2 : H) → Traces performs steps w h w1 h1 P → Traces performs steps w1 h1 w2 h2 (EndsWith over)
      → Traces performs steps w h w2 h2 IsOver
  is_over_at P w w1 w2 h h1 h2 first next = record {
    acts = first.acts ++ next.acts;
    leads = leads_both performs steps w w1 w2 h h1 h2 first.acts next.acts first.leads next.leads;
    holds = inl (ends_after over first.acts next.acts next.holds);
  }

  pub is_over_past : (count : ℕ) (w w1 : S) (h h1 : H) → 18446744073709551615 ≤ count → Traces performs steps w h w1 h1 (λ acts. count ≤ waits_in acts)
      → Traces performs steps w h w1 h1 IsOver
  is_over_past count w w1 h h1 past first = record { acts = first.acts; leads = first.leads; holds = let waits = first.holds in inr (omega (arith, past, waits)) }

  -- a turn: a wait, what is noted after it, and what follows, which is nothing once the service is to end
  pub turn_starts : (P : List Act → Type 0) (is ends : Bool) (known left : Known) (w w1 w2 w3 : S) (h h3 : H) → Performs performs w w1 EndsWithWait
      → Performs performs w1 w2 (λ es. Notes is known es left) → is ≡ ends → (rest : Traces performs steps w2 h w3 h3 P) → (ends ≡ true → rest.acts ≡ [])
      → Traces performs steps w h w3 h3 (StartsTurn ends known)
  turn_starts P is ends known left w w1 w2 w3 h h3 waited noted same rest last = record {
    acts = map At waited.events ++ (map At noted.events ++ rest.acts);
    leads = leads_both performs steps w w1 w3 h h h3 (map At waited.events) (map At noted.events ++ rest.acts) (leads_at performs steps w w1 h waited.events waited.led)
        (leads_both performs steps w1 w2 w3 h h h3 (map At noted.events) rest.acts (leads_at performs steps w1 w2 h noted.events noted.led) rest.leads);
    holds = record {
      waited = waited.events;
      noted = noted.events;
      served = rest.acts;
      acts_are = refl;
      waits = waited.holds;
      left = left;
      notes = subst (λ (b : Bool). Notes b known noted.events left) same noted.holds;
      ends_there = last;
    };
  }
