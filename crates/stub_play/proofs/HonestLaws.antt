-- Scripts over sockets: no event may have link words other than `honest`.
use Rattle.std.proofs.Common.{◌≡◌, ◌<◌, ◌+◌, ◌++◌, ℕ, List, [], ◌∷◌, length, take, get_or, sym, subst}
use Rattle.std.proofs.lemmas.List.{take_more}
use Rattle.stub_link.specs.declared.link.script.Script.TheVariants.{Honest}
use Rattle.stub_run.specs.Event.{AreHonest}
use Rattle.stub_run.specs.declared.event.Event.{Event}

honest-append : (events : List Event) (e : Event) → AreHonest events → e.script ≡ Honest → AreHonest (events ++ e ∷ [])
honest-append [] e h is = (is, tt)
honest-append (x ∷ events) e h is = (h.0, honest-append events e h.1 is)

honest-last : (events : List Event) (e : Event) → AreHonest (events ++ e ∷ []) → e.script ≡ Honest
honest-last [] e h = h.0
honest-last (x ∷ events) e h = honest-last events e h.1

-- one more event follows no script of the link
pub honest-more : (events : List Event) (i : ℕ) (d : Event) → i < length events → AreHonest (take i events)
    → (get_or events i d).script ≡ Honest → AreHonest (take (i + 1) events)
honest-more events i d within h is =
    subst AreHonest (sym (take_more events i d within)) (honest-append (take i events) (get_or events i d) h is)

-- an event follows a script of the link
pub listed-at : (events : List Event) (i : ℕ) (d : Event) → i < length events → ¬ ((get_or events i d).script ≡ Honest)
    → ¬ AreHonest (take (i + 1) events)
listed-at events i d within not h =
    not (honest-last (take i events) (get_or events i d) (subst AreHonest (take_more events i d within) h))
