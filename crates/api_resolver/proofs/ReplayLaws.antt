-- The next event of a network of what has come so far.
use Rattle.std.proofs.Common.{◌≡◌, ◌<◌, ℕ, List, [], ◌∷◌, length, get_or, Some, sym, subst, ap, ◌∙◌, refl, max, arith}
use Rattle.std.specs.Prelude.{remove}
use Rattle.api_resolver.specs.Replay.{ReplayState, TakesEvent, next_event}
use Rattle.api_resolver.specs.declared.event.Event.{Event}

-- the first event was removed
pub first-removed : (xs : List Event) (x : Event) (rest : List Event) → 0 < length xs → x ≡ get_or xs 0 x → rest ≡ remove xs 0 → xs ≡ x ∷ rest
first-removed [] x rest h e r = absurd (omega arith)
first-removed (y ∷ ys) x rest h e r = ap (λ z. z ∷ ys) (sym e) ∙ ap (λ zs. x ∷ zs) (sym r)

-- no event is left
pub nothing-left : (xs : List Event) → length xs ≡ 0 → xs ≡ []
nothing-left [] e = refl
nothing-left (x ∷ xs) e = absurd (omega arith)

-- the next event is taken
pub takes-next : (deadline : ℕ) (old : ReplayState) (next : Event) (rest : List Event) (clock : ℕ) → old.events ≡ next ∷ rest → clock ≡ max old.clock next.moment
    → TakesEvent deadline old (Some next.arrival) (record old { clock = clock; events = rest })
takes-next deadline old next rest clock is c =
    subst (λ (t : ℕ). TakesEvent deadline old (Some next.arrival) (record old { clock = t; events = rest })) (sym c) (next_event next rest is)
