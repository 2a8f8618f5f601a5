-- The next event of a script.
use Rattle.std.proofs.Common.{◌≡◌, ◌+◌, ◌-◌, ◌^◌, ◌<◌, ◌≤◌, min, ℕ, List, [], ◌∷◌, length, get_or, refl, sym, subst, ◌∙◌, ap, arith}
use Rattle.std.specs.Prelude.{remove}
use Rattle.stub_net.specs.Script.{ScriptState, TakesEvent, in_time, later, too_late}
use Rattle.stub_net.specs.declared.network.scripted.NetworkEvent.TheVariants.{Silence}
use Rattle.stub_net.specs.declared.network.scripted.TimedEvent.{TimedEvent}

-- the first element was removed
pub first-removed : (xs : List TimedEvent) (x : TimedEvent) (rest : List TimedEvent) → 0 < length xs → x ≡ get_or xs 0 x → rest ≡ remove xs 0 → xs ≡ x ∷ rest
first-removed [] x rest h e r = absurd (omega arith)
first-removed (y ∷ ys) x rest h e r = ap (λ z. z ∷ ys) (sym e) ∙ ap (λ zs. x ∷ zs) (sym r)

-- no event is left
pub nothing-left : (xs : List TimedEvent) → length xs ≡ 0 → xs ≡ []
nothing-left [] e = refl
nothing-left (x ∷ xs) e = absurd (omega arith)

-- the sum of two numbers of 64 bits, up to the greatest one
pub moment-later : (clock delay moment : ℕ) → clock ≤ 2 ^ 64 - 1 → moment ≡ min (clock + delay) (2 ^ 64 - 1) → moment ≡ later clock delay
moment-later clock delay moment small is = omega arith

-- the next event comes by the deadline
pub taken-in-time : (deadline : ℕ) (old : ScriptState) (next : TimedEvent) (rest : List TimedEvent) (moment : ℕ) → old.script ≡ next ∷ rest → moment ≡ later old.clock next.delay → moment ≤ deadline
    → TakesEvent deadline old next.event (record old { clock = moment; script = rest })
taken-in-time deadline old next rest moment is m h =
    subst (λ (clock : ℕ). TakesEvent deadline old next.event (record old { clock = clock; script = rest })) (sym m) (in_time next rest is (subst (λ (t : ℕ). t ≤ deadline) m h))

-- the next event comes after the deadline
pub taken-too-late : (deadline : ℕ) (old : ScriptState) (next : TimedEvent) (rest : List TimedEvent) (moment : ℕ) → old.script ≡ next ∷ rest → moment ≡ later old.clock next.delay → deadline < moment
    → TakesEvent deadline old Silence (record old { script = rest })
taken-too-late deadline old next rest moment is m h = too_late next rest is (subst (λ (t : ℕ). deadline < t) m h)
