-- Lists whose items have data.
use Rattle.std.proofs.lemmas.List.Edits.{map_over_more}
use Rattle.std.proofs.Common.{◌≡◌, ◌<◌, ◌+◌, ◌-◌, slice_get, length-append, map, take, drop, set, get_or, ℕ, Bool, true, false, ◌||◌, List, [], ◌∷◌, ◌++◌, refl, sym, ap, ◌∙◌, length, arith, Some}
use Rattle.std.specs.List.{list_any, IsDistinct, AllByRecursion}

-- an item behind all others
pub all_push : {A : Type 0} (P : A → Type 0) (xs : List A) (y : A) → AllByRecursion P xs → P y → AllByRecursion P (xs ++ y ∷ [])
all_push P [] y all q = (q, tt)
all_push P (x ∷ xs) y all q = (all.0, all_push P xs y all.1 q)

pub true-not-false : true ≡ false → ⊥
true-not-false e = absurd cc

-- where no item passes, each does not
pub first_fails : (a b : Bool) → (a || b) ≡ false → a ≡ false
first_fails false b e = refl
first_fails true b e = absurd (true-not-false e)

pub others_fail : (a b : Bool) → (a || b) ≡ false → b ≡ false
others_fail false b e = e
others_fail true b e = absurd (true-not-false e)

pub distinct_push : {A : Type 0} (e : A → A → Bool) (xs : List A) (y : A) → IsDistinct e xs → list_any (λ x. e x y) xs ≡ false → IsDistinct e (xs ++ y ∷ [])
unfolding IsDistinct
distinct_push e [] y d none = (tt, tt)
distinct_push e (x ∷ xs) y d none =
    (all_push (λ z. e x z ≡ false) xs y d.0 (first_fails (e x y) (list_any (λ z. e z y) xs) none), distinct_push e xs y d.1 (others_fail (e x y) (list_any (λ z. e z y) xs) none))

pub distinct_one : {A : Type 0} (e : A → A → Bool) (y : A) → IsDistinct e (y ∷ [])
unfolding IsDistinct
distinct_one e y = (tt, tt)

-- a loop that writes over an item what a function makes of it
pub write_each : {A : Type 0} (f : A → A) (xs ys : List A) (i : ℕ) (x : A) → i < length xs → ys ≡ map f (take i xs) ++ drop i xs → x ≡ get_or ys i x → set ys i (f (get_or ys i x)) ≡ map f (take (i + 1) xs) ++ drop (i + 1) xs
write_each f xs ys i x h e is = ap (λ y. set ys i (f y)) (sym is) ∙ map_over_more f xs ys i x h e is

pub get_last : {A : Type 0} (xs : List A) (x : A) → slice_get (xs ++ x ∷ []) (length xs) ≡ Some x
get_last [] x = refl
get_last (y ∷ xs) x = get_last xs x

length_push : {A : Type 0} (xs : List A) (x : A) → length (xs ++ x ∷ []) - 1 ≡ length xs
length_push xs x = omega (arith, length-append xs (x ∷ []))

pub push_last : {A : Type 0} (xs : List A) (x : A) → slice_get (xs ++ x ∷ []) (length (xs ++ x ∷ []) - 1) ≡ Some x
push_last xs x = ap (slice_get (xs ++ x ∷ [])) (length_push xs x) ∙ get_last xs x
