-- Lists that begin alike: their first elements, so many at most, are the same.
use Rattle.std.proofs.Common.{◌≡◌, ◌+◌, ◌-◌, ◌<◌, ◌≤◌, ◌++◌, zero, suc, ℕ, List, [], ◌∷◌, length, map, take, drop, get_or, refl, sym, ap, ◌∙◌, arith}
use Rattle.std.proofs.lemmas.List.{append-nil, length-take, map-append, take-append-le, take-append-drop, take_more}
use Rattle.std.proofs.lemmas.Grind.{flat_map-append}
use Rattle.std.specs.List.{flat_map}

module _ {X : Type 0} where
  -- what begins alike begins alike for fewer elements
  pub fewer : (k n : ℕ) (xs ys : List X) → k ≤ n → take n xs ≡ take n ys → take k xs ≡ take k ys
  fewer zero n xs ys few e = refl
  fewer (suc k) zero xs ys few e = absurd (omega (arith, few))
  fewer (suc k) (suc n) [] [] few e = refl
  fewer (suc k) (suc n) [] (y ∷ ys) few e = absurd (cc)
  fewer (suc k) (suc n) (x ∷ xs) [] few e = absurd (cc)
  fewer (suc k) (suc n) (x ∷ xs) (y ∷ ys) few e =
      let head : x ≡ y = cc in
      let tail : take n xs ≡ take n ys = cc in
      ap (λ (z : X). z ∷ take k xs) head ∙ ap (λ (zs : List X). y ∷ zs) (fewer k n xs ys (omega (arith, few)) tail)

  -- lists that are followed by lists
  pub followed : (n : ℕ) (xs ys us vs : List X) → take n xs ≡ take n ys → take n us ≡ take n vs → take n (xs ++ us) ≡ take n (ys ++ vs)
  followed zero xs ys us vs e f = refl
  followed (suc n) [] [] us vs e f = f
  followed (suc n) [] (y ∷ ys) us vs e f = absurd (cc)
  followed (suc n) (x ∷ xs) [] us vs e f = absurd (cc)
  followed (suc n) (x ∷ xs) (y ∷ ys) us vs e f =
      let head : x ≡ y = cc in
      let tail : take n xs ≡ take n ys = cc in
      ap (λ (z : X). z ∷ take n (xs ++ us)) head ∙ ap (λ (zs : List X). y ∷ zs) (followed n xs ys us vs tail (fewer n (suc n) us vs (omega arith) f))

  -- a list that is shorter is the whole of another
  pub shorter : (n : ℕ) (xs ys : List X) → length xs < n → take n xs ≡ take n ys → xs ≡ ys
  shorter zero xs ys short e = absurd (omega (arith, short))
  shorter (suc n) [] [] short e = refl
  shorter (suc n) [] (y ∷ ys) short e = absurd (cc)
  shorter (suc n) (x ∷ xs) [] short e = absurd (cc)
  shorter (suc n) (x ∷ xs) (y ∷ ys) short e =
      let head : x ≡ y = cc in
      let tail : take n xs ≡ take n ys = cc in
      ap (λ (z : X). z ∷ xs) head ∙ ap (λ (zs : List X). y ∷ zs) (shorter n xs ys (omega (arith, short)) tail)

  -- the first elements of the first elements
  pub twice : (n : ℕ) (xs : List X) → take n (take n xs) ≡ take n xs
  twice zero xs = refl
  twice (suc n) [] = refl
  twice (suc n) (x ∷ xs) = ap (λ (zs : List X). x ∷ zs) (twice n xs)

  -- how many elements are left of a number after those of a list
  left_after : (n : ℕ) (xs : List X) → n - length xs ≡ n - length (take n xs)
  left_after n xs = omega (arith, length-take n xs)

  -- the first elements of a second list, as many as are left after a first one
  pub left_alike : (n : ℕ) (xs ys us vs : List X) → take n xs ≡ take n ys → take n us ≡ take n vs → take (n - length xs) us ≡ take (n - length ys) vs
  left_alike n xs ys us vs e f =
      let same : n - length xs ≡ n - length ys = left_after n xs ∙ ap (λ (zs : List X). n - length zs) e ∙ sym (left_after n ys) in
      fewer (n - length xs) n us vs (omega arith) f ∙ ap (λ (k : ℕ). take k vs) same

module _ {X Y Z : Type 0} (f : Y → Z) (g : X → List Y) where
  -- one more list
  pub one_more_list : (n i : ℕ) (xs : List X) (d : X) (so_far more : List Z) → i < length xs → take n so_far ≡ take n (map f (flat_map g (take i xs)))
      → take n more ≡ take n (map f (g (get_or xs i d))) → take n (so_far ++ more) ≡ take n (map f (flat_map g (take (i + 1) xs)))
  one_more_list n i xs d so_far more below so_far_is more_is =
      let x : X = get_or xs i d in
      let parts : map f (flat_map g (take i xs)) ++ map f (g x) ≡ map f (flat_map g (take (i + 1) xs)) =
      sym (map-append f (flat_map g (take i xs)) (g x))
      ∙ ap (map f) (ap (λ (ys : List Y). flat_map g (take i xs) ++ ys) (sym (append-nil (g x))) ∙ sym (flat_map-append g (take i xs) (x ∷ []))
      ∙ ap (flat_map g) (sym (take_more xs i d below))) in
      followed n so_far (map f (flat_map g (take i xs))) more (map f (g x)) so_far_is more_is ∙ ap (take n) parts

  -- enough of them
  pub enough : (n i : ℕ) (xs : List X) (so_far : List Z) → n ≤ length so_far → take n so_far ≡ take n (map f (flat_map g (take i xs)))
      → take n so_far ≡ take n (map f (flat_map g xs))
  enough n i xs so_far many is =
      let front : List Z = map f (flat_map g (take i xs)) in
      let rest : List Z = map f (flat_map g (drop i xs)) in
      let whole : front ++ rest ≡ map f (flat_map g xs) =
      sym (map-append f (flat_map g (take i xs)) (flat_map g (drop i xs)))
      ∙ ap (map f) (sym (flat_map-append g (take i xs) (drop i xs)) ∙ ap (flat_map g) (take-append-drop i xs)) in
      let long : n ≤ length front = omega (arith, many, length-take n so_far, length-take n front, ap length is) in
      is ∙ sym (take-append-le n front rest long) ∙ ap (take n) whole
