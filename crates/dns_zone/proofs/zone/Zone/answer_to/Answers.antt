use Rattle.std.proofs.Common.{◌≡◌, Result, Ok, Err, sym, subst}
use Rattle.std.specs.Prelude.{IfOk}
use Rattle.dns_zone.proofs.zone.Zone.answer_to.Goals as goal

-- what holds of a value under a premise holds of its copy
copied : {X E : Type 0} (P : Type 0) (S : X → Type 0) (x : X) (r : Result X E) → IfOk r (λ copy. copy ≡ x) → (P → S x) → IfOk r (λ copy. P → S copy)
copied P S x (Ok copy) same holds = λ p. subst S (sym same) (holds p)
copied P S x (Err e) same holds = tt

pub returns-clause-sound : goal.returns-clause-sound
returns-clause-sound c = copied _ _ _ c.to_owned.result c.to_owned.ensures.answer c.answer_ref.ensures.sound
