-- The folder of a path, by its last octet.
use Rattle.std.proofs.Common.{◌≡◌, ◌<◌, ◌≤◌, ◌+◌, ◌-◌, ◌==◌, ◌++◌, ◌||◌, if◌then◌else◌, ℕ, Bool, true, false, List, [], ◌∷◌, length, take, get_or, refl, ap, sym, ◌∙◌, arith, rules}
use Rattle.std.proofs.lemmas.List.{take_more}
use Rattle.std.proofs.lemmas.List.Folds.{list_any-append}
use Rattle.dns_zone_file.specs.includes.Path.{folder, has_slash}

has_slash-last : (xs : List ℕ) → has_slash (xs ++ 47 ∷ []) ≡ true
has_slash-last [] = refl
has_slash-last (x ∷ xs) = rw (has_slash-last xs) (or-true (x == 47))
  where
    or-true : (b : Bool) → (b || true) ≡ true
    or-true true = refl
    or-true false = refl

has_slash-other : (xs : List ℕ) (c : ℕ) → (c == 47) ≡ false → has_slash (xs ++ c ∷ []) ≡ has_slash xs
has_slash-other [] c other = rw other refl
has_slash-other (x ∷ xs) c other = ap (λ (b : Bool). (x == 47) || b) (has_slash-other xs c other)

-- a path that ends in a `/` is its own folder
pub folder-last : (xs : List ℕ) → folder (xs ++ 47 ∷ []) ≡ xs ++ 47 ∷ []
folder-last [] = refl
folder-last (x ∷ xs) = rw (has_slash-last (x ∷ xs)) (ap (λ (r : List ℕ). x ∷ r) (folder-last xs))

-- any other last octet does not count
pub folder-other : (xs : List ℕ) (c : ℕ) → (c == 47) ≡ false → folder (xs ++ c ∷ []) ≡ folder xs
folder-other [] c other = rw other refl
folder-other (x ∷ xs) c other =
    rw (has_slash-other (x ∷ xs) c other) (ap (λ (r : List ℕ). if has_slash (x ∷ xs) then x ∷ r else []) (folder-other xs c other))

not-slash : (c : ℕ) → (c ≡ 47 → ⊥) → (c == 47) ≡ false
not-slash c other = search (rules, other)

-- an octet that is no `/` belongs to no folder
pub folder-back : (path : List ℕ) (len : ℕ) → 0 < len → len ≤ length path → (get_or path (len - 1) 0 ≡ 47 → ⊥)
    → folder (take (len - 1) path) ≡ folder (take len path)
folder-back path len some within other =
    let place : len - 1 < length path = omega (arith, some, within) in
    let next : len ≡ (len - 1) + 1 = omega (arith, some) in
    sym (ap (λ (n : ℕ). folder (take n path)) next ∙ ap folder (take_more path (len - 1) 0 place)
    ∙ folder-other (take (len - 1) path) (get_or path (len - 1) 0) (not-slash (get_or path (len - 1) 0) other))

-- a `/` ends a folder
pub folder-ends : (path : List ℕ) (len : ℕ) → 0 < len → len ≤ length path → get_or path (len - 1) 0 ≡ 47
    → folder (take len path) ≡ take len path
folder-ends path len some within is =
    let place : len - 1 < length path = omega (arith, some, within) in
    let next : len ≡ (len - 1) + 1 = omega (arith, some) in
    let front : take len path ≡ take (len - 1) path ++ 47 ∷ [] =
    ap (λ (n : ℕ). take n path) next ∙ take_more path (len - 1) 0 place ∙ ap (λ (c : ℕ). take (len - 1) path ++ c ∷ []) is in
    ap folder front ∙ folder-last (take (len - 1) path) ∙ sym front
