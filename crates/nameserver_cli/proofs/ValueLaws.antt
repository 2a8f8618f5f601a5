-- The values of an option, one after another.
use Rattle.std.proofs.Common.{◌≡◌, ◌∙◌, ◌<◌, ◌+◌, ◌++◌, ℕ, List, [], ◌∷◌, length, map, take, get_or, ap, sym, subst}
use Rattle.std.proofs.lemmas.List.{map-append, take_more}
use Rattle.std.specs.List.{AllZip}

-- a relation holds of two lists, and of one more element of each
zipped_more : {A B : Type 0} (R : A → B → Type 0) (xs : List A) (ys : List B) (x : A) (y : B) → AllZip R xs ys → R x y
    → AllZip R (xs ++ x ∷ []) (ys ++ y ∷ [])
zipped_more R [] [] x y all one = (one, tt)
zipped_more R [] (b ∷ ys) x y all one = absurd all
zipped_more R (a ∷ xs) [] x y all one = absurd all
zipped_more R (a ∷ xs) (b ∷ ys) x y all one = (all.0, zipped_more R xs ys x y all.1 one)

-- what is read of the values before one, and of that
pub read_more : {A B C : Type 0} (R : B → C → Type 0) (f : A → B) (values : List A) (i : ℕ) (d : A) (found : List C) (c : C) → i < length values
    → AllZip R (map f (take i values)) found → R (f (get_or values i d)) c → AllZip R (map f (take (i + 1) values)) (found ++ c ∷ [])
read_more {A} {B} R f values i d found c within all one =
    let same : map f (take i values) ++ f (get_or values i d) ∷ [] ≡ map f (take (i + 1) values) =
    sym (map-append f (take i values) (get_or values i d ∷ [])) ∙ ap (map f) (sym (take_more values i d within)) in
    subst (λ (xs : List B). AllZip R xs (found ++ c ∷ [])) same (zipped_more R (map f (take i values)) found (f (get_or values i d)) c all one)
