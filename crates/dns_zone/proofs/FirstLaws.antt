-- Lists of distinct items.
use Rattle.std.proofs.Common.{◌≡◌, Bool, true, false, cond, List, [], ◌∷◌, ◌++◌, refl, Option}
use Rattle.std.specs.List.{AllByRecursion, IsDistinct}

all_moved : {A : Type 0} (P : A → Type 0) (front : List A) (x : A) (back : List A) → AllByRecursion P (front ++ x ∷ back) → AllByRecursion P (x ∷ (front ++ back))
all_moved P [] x back all = all
all_moved P (y ∷ front) x back all =
    let rest = all_moved P front x back all.1 in
    (rest.0, (all.0, rest.1))

-- the item is another than each before it
pub others_before : {A : Type 0} (e : A → A → Bool) (front : List A) (x : A) (back : List A) → IsDistinct e (front ++ x ∷ back) → AllByRecursion (λ y. e y x ≡ false) front
unfolding IsDistinct
others_before e [] x back d = tt
others_before e (y ∷ front) x back d = ((all_moved (λ z. e y z ≡ false) front x back d.0).0, others_before e front x back d.1)

pub either_first : {A : Type 0} (a b : Bool) (x y z : Option A) → (a ≡ true → b ≡ true → ⊥) → cond b x (cond a y z) ≡ cond a y (cond b x z)
either_first true true x y z h = absurd (h refl refl)
either_first true false x y z h = refl
either_first false true x y z h = refl
either_first false false x y z h = refl
