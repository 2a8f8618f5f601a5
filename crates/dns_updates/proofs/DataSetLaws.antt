-- Indexes of data, and the loops over lists of data that is lent.
use Rattle.std.proofs.Common.{◌≡◌, ◌<◌, ◌+◌, ℕ, Bool, true, false, cond, ◌&&◌, ◌||◌, List, [], ◌∷◌, ◌++◌, map, take, drop, drop-cons, add-one, suc, refl, sym, ap, ◌∙◌, length, get_or}
use Rattle.std.proofs.lemmas.List.{map-append, take_more}
use Rattle.std.proofs.lemmas.List.Folds.{list_any-append}
use Rattle.std.specs.Borrow.{Bor}
use Rattle.std.specs.Cmp.{eq_by_cmp_equiv}
use Rattle.std.specs.List.{list_all, list_any}
use Rattle.std.specs.Ordering.{is_eq}
use Rattle.dns_data.specs.declared.rdata.RData.{RData}
use Rattle.dns_data.specs.internal.DataOrder.{data_cmp-total, data_tie}
use Rattle.dns_data.specs.rdata.{same_data}
use Rattle.dns_data.specs.rdata.Order.{data_cmp}
use Rattle.dns_updates.specs.Records.{is_among}
use Rattle.dns_updates.specs.internal.Required.{has_datum, lent}

-- ---- one more element of a list

-- two lists that have the same of each of their elements
pub mapped_more : {A B C : Type 0} (f : A → C) (g : B → C) (before new : List A) (a : A) (bs : List B) (i : ℕ) (b d : B) → i < length bs → b ≡ get_or bs i d
    → new ≡ before ++ a ∷ [] → f a ≡ g b → map f before ≡ map g (take i bs) → map f new ≡ map g (take (i + 1) bs)
mapped_more f g before new a bs i b d h e is same inv =
    ap (map f) is ∙ map-append f before (a ∷ []) ∙ (λ j. inv j ++ same j ∷ []) ∙ sym (map-append g (take i bs) (b ∷ []))
    ∙ ap (λ x. map g (take i bs ++ x ∷ [])) e ∙ ap (map g) (sym (take_more bs i d h))

element_here : {A : Type 0} (xs : List A) (i : ℕ) (x : A) → i < length xs → x ≡ get_or xs i x → drop i xs ≡ x ∷ drop (i + 1) xs
element_here xs i x h e = rw (add-one) (drop-cons xs i x h ∙ ap (λ y. y ∷ drop (suc i) xs) (sym e))

-- an element that a test refuses
pub all_found : {A B : Type 0} (p : A → Bool) (f : B → A) (xs : List B) (i : ℕ) (x : B) (whole : Bool) → i < length xs → x ≡ get_or xs i x → p (f x) ≡ false
    → list_all p (map f (drop i xs)) ≡ whole → false ≡ whole
all_found p f xs i x whole h e refused inv =
    sym (ap (λ b. b && list_all p (map f (drop (i + 1) xs))) refused) ∙ sym (ap (λ ys. list_all p (map f ys)) (element_here xs i x h e)) ∙ inv

-- an element that passes it
pub all_passed : {A B : Type 0} (p : A → Bool) (f : B → A) (xs : List B) (i : ℕ) (x : B) (whole : Bool) → i < length xs → x ≡ get_or xs i x → p (f x) ≡ true
    → list_all p (map f (drop i xs)) ≡ whole → list_all p (map f (drop (i + 1) xs)) ≡ whole
all_passed p f xs i x whole h e passed inv =
    sym (ap (λ b. b && list_all p (map f (drop (i + 1) xs))) passed) ∙ sym (ap (λ ys. list_all p (map f ys)) (element_here xs i x h e)) ∙ inv

pub all_alike : {A : Type 0} (p q : A → Bool) → ((x : A) → p x ≡ q x) → (xs : List A) → list_all p xs ≡ list_all q xs
all_alike p q h [] = refl
all_alike p q h (x ∷ xs) = λ i. h x i && all_alike p q h xs i

-- ---- an index

tied_data : (x y : RData) → is_eq (data_cmp x y) ≡ same_data y x
tied_data x y = (eq_by_cmp_equiv data_cmp-total).symm x y ∙ sym (data_tie y x)

or_turned : (a b c : Bool) → a ≡ b → cond a true c ≡ (c || b)
or_turned true true true e = refl
or_turned true true false e = refl
or_turned false false true e = refl
or_turned false false false e = refl
or_turned true false c e = absurd (cc)
or_turned false true c e = absurd (cc)

-- what an index has of some data after an insertion
pub datum_inserted : (x d : RData) (before after : Bool) → after ≡ cond (is_eq (data_cmp x d)) true before → after ≡ (before || same_data d x)
datum_inserted x d before after e = e ∙ or_turned (is_eq (data_cmp x d)) (same_data d x) before (tied_data x d)

or_last : (b c : Bool) → (b || c) ≡ (b || (c || false))
or_last true c = refl
or_last false true = refl
or_last false false = refl

-- an index of one more element
pub datum_more : (old new whole : List (Bor RData)) (i : ℕ) (x : Bor RData) → i < length whole → x ≡ get_or whole i x
    → ((d : RData) → has_datum new d ≡ (has_datum old d || same_data d x.now))
    → ((d : RData) → has_datum old d ≡ is_among (lent (take i whole)) d)
    → (d : RData) → has_datum new d ≡ is_among (lent (take (i + 1) whole)) d
datum_more old new whole i x h e inserted inv d =
    inserted d
    ∙ ap (λ b. b || same_data d x.now) (inv d)
    ∙ or_last (is_among (lent (take i whole)) d) (same_data d x.now)
    ∙ sym (list_any-append (same_data d) (lent (take i whole)) (x.now ∷ []))
    ∙ ap (list_any (same_data d)) (sym (map-append (λ (z : Bor RData). z.now) (take i whole) (x ∷ [])))
    ∙ ap (λ y. is_among (lent (take i whole ++ y ∷ [])) d) e
    ∙ ap (λ ys. is_among (lent ys) d) (sym (take_more whole i x h))
