-- The first element of a list that passes a test.
use Rattle.std.proofs.Common.{◌≡◌, ◌<◌, ◌+◌, ◌++◌, ◌||◌, zero, suc, Bool, true, false, cond, ℕ, List, [], ◌∷◌, length, refl, sym, ap, ◌∙◌, subst, arith, Option, Some, None}
use Rattle.std.proofs.lemmas.Iterator.Adapters.{position_from-zero}
use Rattle.std.specs.Prelude.{is_some, slice_get, slice_set, position, IfSome}
use Rattle.std.specs.List.{list_any, position_from}
use Rattle.std.specs.Option.{option_or}

module _ {X : Type 0} (t : X → Bool) where
  -- it is within the list
  bound_from : (i : ℕ) (xs : List X) → IfSome (position_from t i xs) (λ p. p < i + length xs)
  bound_from i [] = tt
  bound_from i (x ∷ xs) = by (t x) (bound_from (i + 1) xs)
    where
      wider : (o : Option ℕ) → IfSome o (λ p. p < i + 1 + length xs) → IfSome o (λ p. p < i + suc (length xs))
      wider None within = tt
      wider (Some p) within = omega (arith, within)

      by : (b : Bool) → IfSome (position_from t (i + 1) xs) (λ p. p < i + 1 + length xs) → IfSome (cond b (Some i) (position_from t (i + 1) xs)) (λ p. p < i + suc (length xs))
      by true within = omega arith
      by false within = wider (position_from t (i + 1) xs) within

  zero_plus : (n : ℕ) → 0 + n ≡ n
  zero_plus n = omega arith

  pub position_bound : (xs : List X) → IfSome (position t xs) (λ p. p < length xs)
  position_bound xs = subst (λ (o : Option ℕ). IfSome o (λ p. p < length xs)) (sym (position_from-zero t xs))
      (subst (λ (n : ℕ). IfSome (position_from t 0 xs) (λ p. p < n)) (zero_plus (length xs)) (bound_from 0 xs))

  -- there is one where some element passes
  some_from : (i : ℕ) (xs : List X) → is_some (position_from t i xs) ≡ list_any t xs
  some_from i [] = refl
  some_from i (x ∷ xs) = by (t x) (some_from (i + 1) xs)
    where
      by : (b : Bool) → is_some (position_from t (i + 1) xs) ≡ list_any t xs → is_some (cond b (Some i) (position_from t (i + 1) xs)) ≡ (b || list_any t xs)
      by true is = refl
      by false is = is

  pub position_some : (xs : List X) → is_some (position t xs) ≡ list_any t xs
  position_some xs = ap is_some (position_from-zero t xs) ∙ some_from 0 xs

  -- or else a further element
  last_from : (i : ℕ) (xs : List X) (x : X) → position_from t i (xs ++ x ∷ []) ≡ option_or (position_from t i xs) (cond (t x) (Some (i + length xs)) None)
  last_from i [] x = by (t x)
    where
      by : (b : Bool) → cond b (Some i) None ≡ cond b (Some (i + 0)) None
      by true = ap (λ (n : ℕ). Some n) (omega arith)
      by false = refl
  last_from i (y ∷ ys) x = by (t y) (last_from (i + 1) ys x)
    where
      place : i + 1 + length ys ≡ i + suc (length ys)
      place = omega arith

      by : (b : Bool) → position_from t (i + 1) (ys ++ x ∷ []) ≡ option_or (position_from t (i + 1) ys) (cond (t x) (Some (i + 1 + length ys)) None)
          → cond b (Some i) (position_from t (i + 1) (ys ++ x ∷ [])) ≡ option_or (cond b (Some i) (position_from t (i + 1) ys)) (cond (t x) (Some (i + suc (length ys))) None)
      by true is = refl
      by false is = is ∙ ap (λ (n : ℕ). option_or (position_from t (i + 1) ys) (cond (t x) (Some n) None)) place

  pub position_last : (xs : List X) (x : X) → position t (xs ++ x ∷ []) ≡ option_or (position t xs) (cond (t x) (Some (length xs)) None)
  position_last xs x =
      position_from-zero t (xs ++ x ∷ []) ∙ last_from 0 xs x
      ∙ ap (λ (n : ℕ). option_or (position_from t 0 xs) (cond (t x) (Some n) None)) (zero_plus (length xs))
      ∙ ap (λ (o : Option ℕ). option_or o (cond (t x) (Some (length xs)) None)) (sym (position_from-zero t xs))

  -- it stays where an element is replaced by one with the same outcome
  set_from : (i : ℕ) (xs : List X) (place : ℕ) (old new : X) → slice_get xs place ≡ Some old → t new ≡ t old → position_from t i (slice_set xs place new) ≡ position_from t i xs
  set_from i [] place old new is same = absurd (cc)
  set_from i (y ∷ ys) zero old new is same =
      let first : y ≡ old = cc in
      ap (λ (b : Bool). cond b (Some i) (position_from t (i + 1) ys)) (same ∙ sym (ap t first))
  set_from i (y ∷ ys) (suc place) old new is same =
      ap (λ (o : Option ℕ). cond (t y) (Some i) o) (set_from (i + 1) ys place old new is same)

  pub position_set : (xs : List X) (place : ℕ) (old new : X) → slice_get xs place ≡ Some old → t new ≡ t old → position t (slice_set xs place new) ≡ position t xs
  position_set xs place old new is same =
      position_from-zero t (slice_set xs place new) ∙ set_from 0 xs place old new is same ∙ sym (position_from-zero t xs)
