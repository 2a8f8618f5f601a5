-- Moments in order.
use Rattle.std.proofs.Common.{◌≡◌, ◌≤◌, ◌<◌, ◌+◌, ◌^◌, ◌++◌, ◌⊎◌, ℕ, List, [], ◌∷◌, length, take, drop, get_or, refl, arith, drop-cons, ap, ◌∙◌, suc, inl, inr}
use Rattle.std.proofs.lemmas.List.{take_more, take_all, take-append-drop}
use Rattle.std.proofs.lemmas.Bool.{cases_lt}
use Rattle.stub_run.specs.declared.event.Event.{Event}
use Rattle.stub_run.specs.Run.{InOrder}
use Rattle.stub_play.specs.Plays.{IsFirstOutOfOrder}

-- the events are in order from a moment on, and the last happens at this one
abbrev pub Leads : ℕ → List Event → ℕ → Type 0
Leads first [] last = first ≡ last
Leads first (e ∷ events) last = (first ≤ e.at) × (e.at ≤ 2 ^ 62) × Leads e.at events last

pub leads_more : (first last : ℕ) (events : List Event) (e : Event) → Leads first events last → last ≤ e.at → e.at ≤ 2 ^ 62
    → Leads first (events ++ e ∷ []) e.at
leads_more first last [] e h low high = (rw h low, high, refl)
leads_more first last (x ∷ events) e h low high = (h.0, h.1, leads_more x.at last events e h.2 low high)

pub leads_in_order : (first last : ℕ) (events : List Event) → Leads first events last → InOrder first events
leads_in_order first last [] h = tt
leads_in_order first last (x ∷ events) h = (h.0, h.1, leads_in_order x.at last events h.2)

pub leads_to_rest : (first last : ℕ) (events more : List Event) → Leads first events last → InOrder first (events ++ more) → InOrder last more
leads_to_rest first last [] more h o = rw h at o
leads_to_rest first last (x ∷ events) more h o = leads_to_rest x.at last events more h.2 o.2

leads_on_at : (events : List Event) (i last : ℕ) (d : Event) → i < length events → Leads 0 (take i events) last → last ≤ (get_or events i d).at
    → (get_or events i d).at ≤ 2 ^ 62 → Leads 0 (take (i + 1) events) (get_or events i d).at
leads_on_at events i last d lt h low high = rw (take_more events i d lt) (leads_more 0 last (take i events) (get_or events i d) h low high)

-- the event at a place, which happens at this moment
pub record Happens (events : List Event) (i : ℕ) (e : Event) (now : ℕ) : Type 0 where
  pub is_event : i < length events
  pub is : e ≡ get_or events i e
  pub moment : now ≡ e.at

pub leads_on : (events : List Event) (i last now : ℕ) (e : Event) → Happens events i e now → Leads 0 (take i events) last → last ≤ now → now ≤ 2 ^ 62
    → Leads 0 (take (i + 1) events) now
leads_on events i last now e at h low high =
    let same : now ≡ (get_or events i e).at = at.moment ∙ ap (λ (x : Event). x.at) at.is in
    rw same (leads_on_at events i last e at.is_event h (rw (← same) low) (rw (← same) high))

-- a moment that is too early or too late
abbrev pub IsOut : ℕ → ℕ → Type 0
IsOut last now = (now < last) ⊎ (2 ^ 62 < now)

not_both : (last now : ℕ) → IsOut last now → last ≤ now → now ≤ 2 ^ 62 → ⊥
not_both last now out low high = elim out [ inl h ↦ omega arith | inr h ↦ omega arith ]

pub out_is_not_in_order : (events : List Event) (i last now : ℕ) (e : Event) → Happens events i e now → Leads 0 (take i events) last → IsOut last now
    → ¬ InOrder 0 events
out_is_not_in_order events i last now e at h out o =
    let same : now ≡ (get_or events i e).at = at.moment ∙ ap (λ (x : Event). x.at) at.is in
    let split : take i events ++ (get_or events i e ∷ drop (suc i) events) ≡ events = rw (← drop-cons events i e at.is_event) (take-append-drop i events) in
    let there : InOrder 0 (take i events ++ (get_or events i e ∷ drop (suc i) events)) = rw split o in
    let rest = leads_to_rest 0 last (take i events) (get_or events i e ∷ drop (suc i) events) h there in
    not_both last (get_or events i e).at (rw (← same) out) rest.0 rest.1

pub out_is_first : (events : List Event) (i last now : ℕ) (e : Event) → Happens events i e now → Leads 0 (take i events) last → IsOut last now
    → IsFirstOutOfOrder events i
out_is_first events i last now e at h out =
    let same : now ≡ (get_or events i e).at = at.moment ∙ ap (λ (x : Event). x.at) at.is in
    record {
      is_event = at.is_event;
      before = leads_in_order 0 last (take i events) h;
      late = λ o.
          let there : InOrder 0 (take i events ++ get_or events i e ∷ []) = rw (← take_more events i e at.is_event) o in
          let rest = leads_to_rest 0 last (take i events) (get_or events i e ∷ []) h there in
          not_both last (get_or events i e).at (rw (← same) out) rest.0 rest.1;
    }

pub none_is_in_order : (events : List Event) (i last : ℕ) → length events ≤ i → Leads 0 (take i events) last → InOrder 0 events
none_is_in_order events i last h leads = rw (← take_all i events h) (leads_in_order 0 last (take i events) leads)

pub in_order_or_not : (first : ℕ) (events : List Event) → InOrder first events ⊎ (¬ InOrder first events)
in_order_or_not first [] = inl tt
in_order_or_not first (e ∷ events) = elim (cases_lt e.at first) [
  | inl early ↦ inr (λ h. let low = h.0 in omega arith)
  | inr low ↦ elim (cases_lt (2 ^ 62) e.at) [
    | inl late ↦ inr (λ h. let high = h.1 in omega arith)
    | inr high ↦ elim (in_order_or_not e.at events) [
      | inl rest ↦ inl (low, high, rest)
      | inr not ↦ inr (λ h. not h.2)
    ]
  ]
]

-- moments that are not out of order are in order
pub in_order_if_not_out : (events : List Event) → ¬ (¬ InOrder 0 events) → InOrder 0 events
in_order_if_not_out events h = elim (in_order_or_not 0 events) [ inl is ↦ is | inr not ↦ absurd (h not) ]
