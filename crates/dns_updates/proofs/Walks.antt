-- Loops over lists: what is left to walk gives what the whole list gives.
use Rattle.std.proofs.Common.{◌≡◌, ◌+◌, ◌<◌, ◌≤◌, ℕ, Bool, true, false, cond, not, ◌&&◌, ◌||◌, List, [], ◌∷◌, refl, sym, ap, ◌∙◌, length, drop, get_or, suc, drop-cons, add-one, arith}
use Rattle.std.proofs.lemmas.List.{drop_all}
use Rattle.std.specs.List.{list_any, list_all, filter, position_or_len}

-- the element at a place, and what follows it
pub drop_at : {A : Type 0} (xs : List A) (i : ℕ) (x : A) → i < length xs → x ≡ get_or xs i x → drop i xs ≡ x ∷ drop (i + 1) xs
drop_at xs i x h e = rw (add-one) (drop-cons xs i x h ∙ ap (λ y. y ∷ drop (suc i) xs) (sym e))

-- an element that changes nothing
pub passed : {A B : Type 0} (f : List A → B) (xs : List A) (i : ℕ) (x : A) (whole : B) → i < length xs → x ≡ get_or xs i x
    → f (x ∷ drop (i + 1) xs) ≡ f (drop (i + 1) xs) → f (drop i xs) ≡ whole → f (drop (i + 1) xs) ≡ whole
passed f xs i x whole h e same inv = sym same ∙ sym (ap f (drop_at xs i x h e)) ∙ inv

-- an element that decides
pub found : {A B : Type 0} (f : List A → B) (xs : List A) (i : ℕ) (x : A) (whole answer : B) → i < length xs → x ≡ get_or xs i x
    → f (x ∷ drop (i + 1) xs) ≡ answer → f (drop i xs) ≡ whole → answer ≡ whole
found f xs i x whole answer h e is inv = sym is ∙ sym (ap f (drop_at xs i x h e)) ∙ inv

-- the end
pub ended : {A B : Type 0} (f : List A → B) (xs : List A) (i : ℕ) (whole : B) → length xs ≤ i → f (drop i xs) ≡ whole → f [] ≡ whole
ended f xs i whole h inv = sym (ap f (drop_all i xs h)) ∙ inv

-- ---- tests of any and of all

pub any_not : {A : Type 0} (p : A → Bool) (x : A) (xs : List A) → p x ≡ false → list_any p (x ∷ xs) ≡ list_any p xs
any_not p x xs e = ap (λ b. b || list_any p xs) e

pub any_is : {A : Type 0} (p : A → Bool) (x : A) (xs : List A) → p x ≡ true → list_any p (x ∷ xs) ≡ true
any_is p x xs e = ap (λ b. b || list_any p xs) e

pub all_is : {A : Type 0} (p : A → Bool) (x : A) (xs : List A) → p x ≡ true → list_all p (x ∷ xs) ≡ list_all p xs
all_is p x xs e = ap (λ b. b && list_all p xs) e

pub all_not : {A : Type 0} (p : A → Bool) (x : A) (xs : List A) → p x ≡ false → list_all p (x ∷ xs) ≡ false
all_not p x xs e = ap (λ b. b && list_all p xs) e

pub any_alike : {A : Type 0} (p q : A → Bool) → ((x : A) → p x ≡ q x) → (xs : List A) → list_any p xs ≡ list_any q xs
any_alike p q h [] = refl
any_alike p q h (x ∷ xs) = λ i. h x i || any_alike p q h xs i

pub filter_alike : {A : Type 0} (p q : A → Bool) → ((x : A) → p x ≡ q x) → (xs : List A) → filter p xs ≡ filter q xs
filter_alike p q h [] = refl
filter_alike p q h (x ∷ xs) = λ i. cond (h x i) (x ∷ filter_alike p q h xs i) (filter_alike p q h xs i)

-- ---- first places

pub place_passed : {A : Type 0} (p : A → Bool) (xs : List A) (i : ℕ) (x : A) → i < length xs → x ≡ get_or xs i x → p x ≡ false → i + position_or_len p (drop i xs) ≡ (i + 1) + position_or_len p (drop (i + 1) xs)
place_passed p xs i x h e f = ap (λ ys. i + position_or_len p ys) (drop_at xs i x h e) ∙ ap (λ b. i + cond (not b) (1 + position_or_len p (drop (i + 1) xs)) 0) f ∙ next i _
  where
    next : (i n : ℕ) → i + (1 + n) ≡ (i + 1) + n
    next i n = omega arith

pub place_found : {A : Type 0} (p : A → Bool) (xs : List A) (i : ℕ) (x : A) → i < length xs → x ≡ get_or xs i x → p x ≡ true → i + position_or_len p (drop i xs) ≡ i
place_found p xs i x h e f = ap (λ ys. i + position_or_len p ys) (drop_at xs i x h e) ∙ ap (λ b. i + cond (not b) (1 + position_or_len p (drop (i + 1) xs)) 0) f ∙ here i
  where
    here : (i : ℕ) → i + 0 ≡ i
    here i = omega arith
