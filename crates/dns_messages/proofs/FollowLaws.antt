-- Values that follow one another.
use Rattle.std.proofs.Common.{◌≡◌, ℕ, ◌≤◌, List, [], ◌∷◌, ◌++◌, length, refl, sym, ap, subst, ◌∙◌, arith}
use Rattle.dns_wire.specs.Decodable.{Follow}

module _ {X : Type 0} (R : ℕ → X → ℕ → Type 0) (same : (place : ℕ) (a b : X) (end end' : ℕ) → R place a end → R place b end' → (a ≡ b) × (end ≡ end')) where
  -- as many values are the same values
  pub follow_same : (place : ℕ) (xs ys : List X) (end end' : ℕ) → length xs ≡ length ys → Follow R place xs end → Follow R place ys end' → (xs ≡ ys) × (end ≡ end')
  follow_same place [] [] end end' len f g = (refl, sym f ∙ g)
  follow_same place [] (y ∷ ys) end end' len f g = absurd (omega arith)
  follow_same place (x ∷ xs) [] end end' len f g = absurd (omega arith)
  follow_same place (x ∷ xs) (y ∷ ys) end end' len f g =
      let one = same place x y f.0 g.0 f.1 g.1 in
      let more = follow_same f.0 xs ys end end' (omega arith) f.2 (subst (λ (n : ℕ). Follow R n ys end') (sym one.1) g.2) in
      (ap (λ (z : X). z ∷ xs) one.0 ∙ ap (λ (zs : List X). y ∷ zs) more.0, more.1)

  -- the first values are the front of more, and the others follow them
  pub follow_rest : (place : ℕ) (xs ys : List X) (middle end : ℕ) → length xs ≤ length ys → Follow R place xs middle → Follow R place ys end → (zs : List X) × (ys ≡ xs ++ zs) × Follow R middle zs end
  follow_rest place [] ys middle end less f g = (ys, refl, subst (λ (n : ℕ). Follow R n ys end) f g)
  follow_rest place (x ∷ xs) [] middle end less f g = absurd (omega arith)
  follow_rest place (x ∷ xs) (y ∷ ys) middle end less f g =
      let one = same place x y f.0 g.0 f.1 g.1 in
      let more = follow_rest f.0 xs ys middle end (omega arith) f.2 (subst (λ (n : ℕ). Follow R n ys end) (sym one.1) g.2) in
      (more.0, ap (λ (z : X). z ∷ ys) (sym one.0) ∙ ap (λ (l : List X). x ∷ l) more.1, more.2)

  -- the values before a place at which none is are the same values
  pub front_same : (place : ℕ) (xs ys : List X) (middle end : ℕ) → Follow R place xs middle → Follow R place ys end → ((z : X) (zs : List X) (n : ℕ) → ys ≡ xs ++ z ∷ zs → R middle z n → ⊥) → ((z : X) (zs : List X) (n : ℕ) → xs ≡ ys ++ z ∷ zs → R end z n → ⊥) → (xs ≡ ys) × (middle ≡ end)
  front_same place [] [] middle end f g none none' = (refl, sym f ∙ g)
  front_same place [] (y ∷ ys) middle end f g none none' = absurd (none y ys g.0 refl (subst (λ (n : ℕ). R n y g.0) f g.1))
  front_same place (x ∷ xs) [] middle end f g none none' = absurd (none' x xs f.0 refl (subst (λ (n : ℕ). R n x f.0) g f.1))
  front_same place (x ∷ xs) (y ∷ ys) middle end f g none none' =
      let one = same place x y f.0 g.0 f.1 g.1 in
      let more = front_same f.0 xs ys middle end f.2 (subst (λ (n : ℕ). Follow R n ys end) (sym one.1) g.2)
      (λ z zs n is. none z zs n (ap (λ (l : List X). y ∷ l) is ∙ ap (λ (w : X). w ∷ (xs ++ z ∷ zs)) (sym one.0)))
      (λ z zs n is. none' z zs n (ap (λ (l : List X). x ∷ l) is ∙ ap (λ (w : X). w ∷ (ys ++ z ∷ zs)) one.0)) in
      (ap (λ (z : X). z ∷ xs) one.0 ∙ ap (λ (zs : List X). y ∷ zs) more.0, more.1)

module _ {X : Type 0} (R : ℕ → X → ℕ → Type 0) where
  -- one more value
  pub follow_push : (place : ℕ) (xs : List X) (y : X) (middle end : ℕ) → Follow R place xs middle → R middle y end → Follow R place (xs ++ y ∷ []) end
  follow_push place [] y middle end f r = (end, subst (λ (n : ℕ). R n y end) (sym f) r, refl)
  follow_push place (x ∷ xs) y middle end f r = (f.0, f.1, follow_push f.0 xs y middle end f.2 r)
