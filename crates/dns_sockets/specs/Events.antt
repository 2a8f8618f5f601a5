-- Events, one after another.
use Rattle.std.specs.Prelude.{◌≡◌, List, [], ◌∷◌}

-- these events, one after another, lead from a state to another
abbrev pub Led : {S E : Type 0} → (S → E → S → Type 0) → S → List E → S → Type 0
Led performs old [] new = old ≡ new
Led {S} performs old (event ∷ events) new = (mid : S) × (performs old event mid × Led performs mid events new)

-- events that lead from a state to another have P
pub record Performs {S E : Type 0} (performs : S → E → S → Type 0) (old new : S) (P : List E → Type 0) : Type 0 where
  pub events : List E
  pub led : Led performs old events new
  pub holds : P events
