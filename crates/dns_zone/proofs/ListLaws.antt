-- Lists, as loops walk over them.
use Rattle.std.proofs.Common.{◌≡◌, ◌+◌, ◌<◌, ◌≤◌, ℕ, Bool, true, false, ◌||◌, List, [], ◌∷◌, sym, ap, ◌∙◌, length, drop, get_or, suc, drop-cons, add-one}
use Rattle.std.proofs.lemmas.List.{drop_all}
use Rattle.std.specs.List.{list_any}

-- the element at a place, and what follows it
pub drop_at : {A : Type 0} (xs : List A) (i : ℕ) (x : A) → i < length xs → x ≡ get_or xs i x → drop i xs ≡ x ∷ drop (i + 1) xs
drop_at xs i x h e = rw (add-one) (drop-cons xs i x h ∙ ap (λ y. y ∷ drop (suc i) xs) (sym e))

pub drop_whole : {A : Type 0} (xs : List A) (i : ℕ) → length xs ≤ i → drop i xs ≡ []
drop_whole xs i h = drop_all i xs h

pub any_passed : {A : Type 0} (p : A → Bool) (xs : List A) (i : ℕ) (x : A) → i < length xs → x ≡ get_or xs i x → p x ≡ false → list_any p (drop (i + 1) xs) ≡ list_any p (drop i xs)
any_passed p xs i x h e f = sym (ap (list_any p) (drop_at xs i x h e) ∙ ap (λ b. b || list_any p (drop (i + 1) xs)) f)

pub any_found : {A : Type 0} (p : A → Bool) (xs : List A) (i : ℕ) (x : A) → i < length xs → x ≡ get_or xs i x → p x ≡ true → list_any p (drop i xs) ≡ true
any_found p xs i x h e f = ap (list_any p) (drop_at xs i x h e) ∙ ap (λ b. b || list_any p (drop (i + 1) xs)) f

pub any_none : {A : Type 0} (p : A → Bool) (xs : List A) (i : ℕ) → length xs ≤ i → list_any p (drop i xs) ≡ false
any_none p xs i h = ap (list_any p) (drop_whole xs i h)
