-- The places in a list whose items pass a test.
use Rattle.std.proofs.Common.{◌≡◌, ◌<◌, ◌≤◌, ◌+◌, ℕ, zero, suc, Bool, true, false, not, cond, ◌&&◌, ◌||◌, ◌==◌, List, [], ◌∷◌, ◌++◌, length, set, get_or, slice_get, refl, sym, ap, ◌∙◌, arith}
use Rattle.std.proofs.lemmas.Bool.Decides.{nat_tests}
use Rattle.std.specs.List.{list_any, position_or_len}
use Rattle.std.specs.Option.{option_map_or}

-- whether the item at a place passes
abbrev pub passes_at : {A : Type 0} → (A → Bool) → List A → ℕ → Bool
passes_at p xs k = option_map_or p (slice_get xs k) false

-- no place passes
abbrev pub NonePasses : {A : Type 0} → (A → Bool) → List A → Type 0
NonePasses p xs = (k : ℕ) → passes_at p xs k ≡ true → ⊥

-- one place passes
pub record IsOnlyPlace {A : Type 0} (p : A → Bool) (xs : List A) (place : ℕ) : Type 0 where
  pub passes : passes_at p xs place ≡ true
  pub only : (k : ℕ) → passes_at p xs k ≡ true → k ≡ place

module _ {A : Type 0} (p : A → Bool) where
  -- ---- a list that changes

  further : (k n : ℕ) → (k == n) ≡ (suc k == suc n)
  further k n = grind (arith, nat_tests)

  apart : (k : ℕ) → (suc k == 0) ≡ false
  apart k = grind (arith, nat_tests)

  apart_too : (k : ℕ) → (0 == suc k) ≡ false
  apart_too k = grind (arith, nat_tests)

  pub push_at : (xs : List A) (y : A) (k : ℕ) → passes_at p (xs ++ y ∷ []) k ≡ cond (k == length xs) (p y) (passes_at p xs k)
  push_at [] y zero = refl
  push_at [] y (suc k) = ap (λ (b : Bool). cond b (p y) false) (sym (apart k))
  push_at (x ∷ xs) y zero = ap (λ (b : Bool). cond b (p y) (p x)) (sym (apart_too (length xs)))
  push_at (x ∷ xs) y (suc k) = push_at xs y k ∙ ap (λ (b : Bool). cond b (p y) (passes_at p xs k)) (further k (length xs))

  pub set_at : (xs : List A) (i : ℕ) (y d : A) → p y ≡ p (get_or xs i d) → (k : ℕ) → passes_at p (set xs i y) k ≡ passes_at p xs k
  set_at [] i y d e k = refl
  set_at (x ∷ xs) zero y d e zero = e
  set_at (x ∷ xs) zero y d e (suc k) = refl
  set_at (x ∷ xs) (suc i) y d e zero = refl
  set_at (x ∷ xs) (suc i) y d e (suc k) = set_at xs i y d e k

  -- ---- the first place

  pub within : (xs : List A) (k : ℕ) → passes_at p xs k ≡ true → k < length xs
  within [] k h = absurd cc
  within (x ∷ xs) zero h = omega arith
  within (x ∷ xs) (suc k) h = omega (arith, within xs k h)

  tail_none : (x : A) (xs : List A) → NonePasses p (x ∷ xs) → NonePasses p xs
  tail_none x xs none k h = none (suc k) h

  tail_only : (x : A) (xs : List A) (k : ℕ) → IsOnlyPlace p (x ∷ xs) (suc k) → IsOnlyPlace p xs k
  tail_only x xs k o = record { passes = o.passes; only = λ j h. omega (arith, o.only (suc j) h) }

  after_only : (x : A) (xs : List A) → IsOnlyPlace p (x ∷ xs) 0 → NonePasses p xs
  after_only x xs o k h = absurd (omega (arith, o.only (suc k) h))

  pub only_is_first : (xs : List A) (place : ℕ) → IsOnlyPlace p xs place → place ≡ position_or_len p xs
  only_is_first [] place o = absurd (let e : false ≡ true = o.passes in cc)
  only_is_first (x ∷ xs) zero o = ap (λ (b : Bool). cond (not b) (1 + position_or_len p xs) 0) (sym o.passes)
  only_is_first (x ∷ xs) (suc k) o = in_case (p x) refl (only_is_first xs k (tail_only x xs k o))
    where
      in_case : (b : Bool) → p x ≡ b → k ≡ position_or_len p xs → suc k ≡ cond (not b) (1 + position_or_len p xs) 0
      in_case true e more = absurd (omega (arith, o.only 0 e))
      in_case false e more = omega arith

  pub none_is_first : (xs : List A) → NonePasses p xs → length xs ≤ position_or_len p xs
  none_is_first [] none = omega arith
  none_is_first (x ∷ xs) none = in_case (p x) refl (none_is_first xs (tail_none x xs none))
    where
      in_case : (b : Bool) → p x ≡ b → length xs ≤ position_or_len p xs → length (x ∷ xs) ≤ cond (not b) (1 + position_or_len p xs) 0
      in_case true e more = absurd (none 0 e)
      in_case false e more = omega arith

  -- ---- a further test

  or_false : (b : Bool) → (b || false) ≡ b
  or_false true = refl
  or_false false = refl

  module _ (q : A → Bool) where
    pub none_has : (xs : List A) → NonePasses p xs → list_any (λ x. p x && q x) xs ≡ false
    none_has [] none = refl
    none_has (x ∷ xs) none = in_case (p x) refl (none_has xs (tail_none x xs none))
      where
        in_case : (b : Bool) → p x ≡ b → list_any (λ x. p x && q x) xs ≡ false → ((b && q x) || list_any (λ x. p x && q x) xs) ≡ false
        in_case true e more = absurd (none 0 e)
        in_case false e more = more

    pub only_has : (xs : List A) (place : ℕ) → IsOnlyPlace p xs place → list_any (λ x. p x && q x) xs ≡ passes_at q xs place
    only_has [] place o = absurd (let e : false ≡ true = o.passes in cc)
    only_has (x ∷ xs) zero o =
        ap (λ (b : Bool). (b && q x) || list_any (λ x. p x && q x) xs) o.passes
        ∙ ap (λ (r : Bool). q x || r) (none_has xs (after_only x xs o))
        ∙ or_false (q x)
    only_has (x ∷ xs) (suc k) o = in_case (p x) refl (only_has xs k (tail_only x xs k o))
      where
        in_case : (b : Bool) → p x ≡ b → list_any (λ x. p x && q x) xs ≡ passes_at q xs k → ((b && q x) || list_any (λ x. p x && q x) xs) ≡ passes_at q xs k
        in_case true e more = absurd (omega (arith, o.only 0 e))
        in_case false e more = more
