-- Parts of a list: one element more, and one less.
use Rattle.std.proofs.Common.{◌≡◌, ℕ, zero, suc, ◌+◌, ◌-◌, ◌<◌, ◌≤◌, List, [], ◌∷◌, ◌++◌, length, take, drop, refl, sym, ap, ◌∙◌, arith}
use Rattle.std.specs.Prelude.{slice_get, slice_range, Some}
use Rattle.std.specs.Cmp.{nat_cmp_is}
use Rattle.std.specs.Cmp.Lexicographic.{slice_cmp}
use Rattle.std.specs.Ordering.{nat_cmp, MatchOrdering}
use Rattle.std.specs.declared.cmp.Ordering.{Ordering}
use Rattle.std.specs.declared.cmp.Ordering.TheVariants.{Less, Equal, Greater}

one_more : (m n : ℕ) (r : Ordering) → MatchOrdering r (m < n) (m ≡ n) (n < m) → MatchOrdering r (suc m < suc n) (suc m ≡ suc n) (suc n < suc m)
one_more m n Less h = omega arith
one_more m n Equal h = omega arith
one_more m n Greater h = omega arith

module _ {A : Type 0} where
  pub drop-at : (xs : List A) (i : ℕ) (x : A) → slice_get xs i ≡ Some x → drop i xs ≡ x ∷ drop (suc i) xs
  drop-at [] i x e = absurd (cc)
  drop-at (y ∷ ys) zero x e = let same : y ≡ x = cc in cc
  drop-at (y ∷ ys) (suc i) x e = drop-at ys i x e

  take-at : (xs : List A) (k : ℕ) (x : A) → slice_get xs k ≡ Some x → take (suc k) xs ≡ take k xs ++ x ∷ []
  take-at [] k x e = absurd (cc)
  take-at (y ∷ ys) zero x e = let same : y ≡ x = cc in cc
  take-at (y ∷ ys) (suc k) x e = ap (λ (l : List A). y ∷ l) (take-at ys k x e)

  get-drop : (xs : List A) (i k : ℕ) → slice_get (drop i xs) k ≡ slice_get xs (i + k)
  get-drop xs zero k = let e : 0 + k ≡ k = omega arith in rw e refl
  get-drop [] (suc i) k = refl
  get-drop (y ∷ ys) (suc i) k = let e : suc i + k ≡ suc (i + k) = omega arith in rw e (get-drop ys i k)

  pub range-first : (xs : List A) (i j : ℕ) (x : A) → i < j → slice_get xs i ≡ Some x → slice_range xs i j ≡ x ∷ slice_range xs (i + 1) j
  range-first xs i j x lt e =
      let some : j - i ≡ suc (j - (i + 1)) = omega arith in
      let next : i + 1 ≡ suc i = omega arith in
      ap (λ (n : ℕ). take n (drop i xs)) some ∙ ap (take (suc (j - (i + 1)))) (drop-at xs i x e) ∙ ap (λ (n : ℕ). x ∷ take (j - (i + 1)) (drop n xs)) (sym next)

  pub range-last : (xs : List A) (i j : ℕ) (x : A) → i < j → slice_get xs (j - 1) ≡ Some x → slice_range xs i j ≡ slice_range xs i (j - 1) ++ x ∷ []
  range-last xs i j x lt e =
      let some : j - i ≡ suc ((j - 1) - i) = omega arith in
      let place : i + ((j - 1) - i) ≡ j - 1 = omega arith in
      ap (λ (n : ℕ). take n (drop i xs)) some ∙ take-at (drop i xs) ((j - 1) - i) x (get-drop xs i ((j - 1) - i) ∙ ap (slice_get xs) place ∙ e)

  -- ---- where two lists are compared, and one has ended
  ends : (R : A → A → Ordering) (i : ℕ) (a b : List A) → i ≤ length a → i ≤ length b → (i < length a → i < length b → ⊥)
      → MatchOrdering (slice_cmp R (drop i a) (drop i b)) (length a < length b) (length a ≡ length b) (length b < length a)
  ends R zero [] [] l m n = refl
  ends R zero [] (y ∷ ys) l m n = omega arith
  ends R zero (x ∷ xs) [] l m n = omega arith
  ends R zero (x ∷ xs) (y ∷ ys) l m n = absurd (n (omega arith) (omega arith))
  ends R (suc i) [] b l m n = absurd (omega arith)
  ends R (suc i) (x ∷ xs) [] l m n = absurd (omega arith)
  ends R (suc i) (x ∷ xs) (y ∷ ys) l m n = one_more (length xs) (length ys) (slice_cmp R (drop i xs) (drop i ys)) (ends R i xs ys (omega arith) (omega arith) (λ p q. n (omega arith) (omega arith)))

  pub by_length : (R : A → A → Ordering) (i : ℕ) (a b : List A) → i ≤ length a → i ≤ length b → (i < length a → i < length b → ⊥)
      → nat_cmp (length a) (length b) ≡ slice_cmp R (drop i a) (drop i b)
  by_length R i a b l m n = sym (nat_cmp_is (length a) (length b) (slice_cmp R (drop i a) (drop i b)) (ends R i a b l m n))
