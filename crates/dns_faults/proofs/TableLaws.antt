-- The rule that decides, by its place.
use Rattle.std.proofs.Common.{◌≡◌, ◌<◌, ◌+◌, List, [], ◌∷◌, ℕ, Bool, true, false, cond, zero, suc, Option, Some, None, refl, sym, ap, subst, arith, ◌∙◌, length, get_or}
use Rattle.std.specs.Prelude.{IfSome, not, nat_lt, option_map, slice_get, slice_set}
use Rattle.std.specs.List.{find, position, position_or_len}
use Rattle.std.proofs.lemmas.List.Quantifiers.{position-Some}
use Rattle.dns_faults.specs.declared.rules.fault.Transport.{Transport}
use Rattle.dns_faults.specs.declared.rules.table.Decision.{Decision}
use Rattle.dns_faults.specs.declared.rules.table.CountedRule.{CountedRule}
use Rattle.dns_faults.specs.rules.Table.{counted, decision_of, with_count}

-- the first of two, or the second
pub cond-true : {X : Type 0} (b : Bool) (x y : X) → b ≡ true → cond b x y ≡ x
cond-true true x y h = refl
cond-true false x y h = grind (arith, h)

pub cond-false : {X : Type 0} (b : Bool) (x y : X) → b ≡ false → cond b x y ≡ y
cond-false true x y h = grind (arith, h)
cond-false false x y h = refl

-- where no rule applies, no count rises
pub counted-none : (p : CountedRule → Bool) (rs : List CountedRule) → find p rs ≡ None → counted p rs ≡ rs
counted-none p [] h = refl
counted-none p (r ∷ rs) h = by_first (p r) h (counted-none p rs)
  where
    by_first : (b : Bool) → cond b (Some r) (find p rs) ≡ None → (find p rs ≡ None → counted p rs ≡ rs)
        → cond b (with_count r ∷ rs) (r ∷ counted p rs) ≡ r ∷ rs
    by_first true i more = grind (arith, i)
    by_first false i more = ap (λ xs. r ∷ xs) (more i)

-- the first rule that applies is found, and its count rises
pub decided-at : (p : CountedRule → Bool) (rs : List CountedRule) (i : ℕ) (d : CountedRule) → i < length rs
    → p (get_or rs i d) ≡ true → ((k : ℕ) → k < i → p (get_or rs k d) ≡ false)
    → (find p rs ≡ Some (get_or rs i d)) × (counted p rs ≡ slice_set rs i (with_count (get_or rs i d)))
decided-at p [] i d lt t f = grind (arith, lt)
decided-at p (r ∷ rs) zero d lt t f = (cond-true (p r) _ _ t, cond-true (p r) _ _ t)
decided-at p (r ∷ rs) (suc i) d lt t f =
    let more = decided-at p rs i d (omega (arith, lt)) t (λ k h. f (suc k) (omega (arith, h))) in
    let here : p r ≡ false = f 0 (omega arith) in
    (cond-false (p r) _ _ here ∙ more.0, cond-false (p r) _ _ here ∙ ap (λ xs. r ∷ xs) more.1)

-- without a place no rule is found
pub find-none : (p : CountedRule → Bool) (rs : List CountedRule) → None ≡ position p rs → find p rs ≡ None
find-none p [] h = refl
find-none p (r ∷ rs) h = by_first (p r) h (find-none p rs)
  where
    by_first : (b : Bool) → None ≡ cond (nat_lt (cond (not b) (1 + position_or_len p rs) 0) (suc (length rs)))
        (Some (cond (not b) (1 + position_or_len p rs) 0)) None
        → (None ≡ position p rs → find p rs ≡ None) → cond b (Some r) (find p rs) ≡ None
    by_first true i more = grind (arith, i)
    by_first false i more = more (grind (arith, i))

-- the element at an index
pub get-is : (rs : List CountedRule) (i : ℕ) (d : CountedRule) → i < length rs → slice_get rs i ≡ Some (get_or rs i d)
get-is [] i d h = grind (arith, h)
get-is (r ∷ rs) zero d h = refl
get-is (r ∷ rs) (suc i) d h = get-is rs i d (omega (arith, h))

-- the rule at the place decides, and is counted
pub place-decides : (p : CountedRule → Bool) (rs : List CountedRule) (i : ℕ) (transport : Transport) (made : Decision) (after : List CountedRule)
    → Some i ≡ position p rs → IfSome (slice_get rs i) (λ r. made ≡ decision_of transport r)
    → IfSome (slice_get rs i) (λ r. after ≡ slice_set rs i (with_count r))
    → (Some made ≡ option_map (decision_of transport) (find p rs)) × (after ≡ counted p rs)
place-decides p [] i transport made after h g k = grind (arith, h)
place-decides p (r ∷ rs) i transport made after h g k =
    let first = position-Some p (r ∷ rs) i r (sym h) in
    let all = decided-at p (r ∷ rs) i r first.0 first.1 first.2 in
    let here = get-is (r ∷ rs) i r first.0 in
    let is_made = subst (λ (o : Option CountedRule). IfSome o (λ q. made ≡ decision_of transport q)) here g in
    let is_after = subst (λ (o : Option CountedRule). IfSome o (λ q. after ≡ slice_set (r ∷ rs) i (with_count q))) here k in
    (ap Some is_made ∙ sym (ap (option_map (decision_of transport)) all.0), is_after ∙ sym all.1)
