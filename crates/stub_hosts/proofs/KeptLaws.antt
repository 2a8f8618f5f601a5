-- Lists of which nothing is kept.
use Rattle.std.proofs.Common.{◌≡◌, Bool, true, false, List, [], ◌∷◌, refl, map}
use Rattle.std.specs.Prelude.{cond, ◌||◌}
use Rattle.std.specs.List.{filter, list_any}

none_here : {X : Type 0} (here any : Bool) (x : X) (kept : List X) → (here || any) ≡ false → (any ≡ false → kept ≡ []) → cond here (x ∷ kept) kept ≡ []
none_here true any x kept none rest = absurd (cc none)
none_here false any x kept none rest = rest none

pub none_kept : {X : Type 0} (p : X → Bool) (xs : List X) → list_any p xs ≡ false → filter p xs ≡ []
none_kept p [] none = refl
none_kept p (x ∷ xs) none = none_here (p x) (list_any p xs) x (filter p xs) none (none_kept p xs)

some_here : {X : Type 0} (here any : Bool) (x : X) (kept : List X) → (here || any) ≡ true → (any ≡ true → kept ≡ [] → ⊥) → cond here (x ∷ kept) kept ≡ [] → ⊥
some_here true any x kept some rest none = cc none
some_here false any x kept some rest none = rest some none

pub some_kept : {X : Type 0} (p : X → Bool) (xs : List X) → list_any p xs ≡ true → filter p xs ≡ [] → ⊥
some_kept p [] some none = cc some
some_kept p (x ∷ xs) some none = some_here (p x) (list_any p xs) x (filter p xs) some (some_kept p xs) none

pub map_nil : {X Y : Type 0} (f : X → Y) (xs : List X) → map f xs ≡ [] → xs ≡ []
map_nil f [] none = refl
map_nil f (x ∷ xs) none = absurd (cc none)
