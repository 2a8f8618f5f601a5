-- The order in which the places of a table have their turns.
use Rattle.std.proofs.Common.{◌≡◌, ◌∙◌, ◌⊎◌, ◌+◌, ◌-◌, ◌<◌, ◌≤◌, inl, inr, zero, suc, Bool, true, false, ℕ, List, [], ◌∷◌, length, refl, sym, ap, subst, arith}
use Rattle.std.proofs.lemmas.Bool.{ltb-false, ltb-true}
use Rattle.std.specs.List.{AllByRecursion, Contains}
use Rattle.std.specs.Prelude.{if◌then◌else◌, nat_lt, slice_get, slice_set, Some}
use Rattle.dns_sockets.specs.Rotation.{IsPlaceOf, first_after, next_place, places_of}

order : (m n : ℕ) → (m ≡ n) ⊎ ((m < n) ⊎ (n < m))
order zero zero = inl refl
order zero (suc n) = inr (inl (omega arith))
order (suc m) zero = inr (inr (omega arith))
order (suc m) (suc n) = by (order m n)
  where
    by : (m ≡ n) ⊎ ((m < n) ⊎ (n < m)) → (suc m ≡ suc n) ⊎ ((suc m < suc n) ⊎ (suc n < suc m))
    by (inl same) = inl (ap suc same)
    by (inr (inl less)) = inr (inl (omega (arith, less)))
    by (inr (inr more)) = inr (inr (omega (arith, more)))

here : (x y : ℕ) (xs : List ℕ) → x ≡ y → Contains (x ∷ xs) y
here x y xs same = (0, omega arith, same)

later : (x y : ℕ) (xs : List ℕ) → Contains xs y → Contains (x ∷ xs) y
later x y xs contains = (suc contains.0, omega (arith, contains.1), contains.2)

-- the first is a place
first_is_next : (count first : ℕ) → nat_lt first count ≡ true → next_place count first ≡ first
first_is_next count first is = ap (λ (b : Bool). if b then first else 0) is

-- or the place 0 comes next
zero_is_next : (count first : ℕ) → nat_lt first count ≡ false → next_place count first ≡ 0
zero_is_next count first is = ap (λ (b : Bool). if b then first else 0) is

-- A place is reached once there are more turns than it is away.
abbrev Reaches : ℕ → ℕ → List ℕ → ℕ → Type 0
Reaches place most counts first =
    (first ≤ place → place - first < length counts) → (place < first → most - first + place < length counts) → Contains (places_of first counts) place

from_first : (place most count first : ℕ) (counts : List ℕ) → IsPlaceOf place most count → first < count → Reaches place most counts (first + 1)
    → (first ≤ place → place - first < suc (length counts)) → (place < first → most - first + place < suc (length counts)) → (first ≡ place) ⊎ ((first < place) ⊎ (place < first))
    → Contains (first ∷ places_of (first + 1) counts) place
from_first place most count first counts is_place is rest ahead behind (inl same) = here first place (places_of (first + 1) counts) same
from_first place most count first counts is_place is rest ahead behind (inr (inl less)) =
    let near = ahead (omega (arith, less)) in
    later first place (places_of (first + 1) counts) (rest (λ before. omega (arith, near, less)) (λ past. absurd (omega (arith, past, less))))
from_first place most count first counts is_place is rest ahead behind (inr (inr more)) =
    let near = behind more in
    let at_most = is_place.1 in
    later first place (places_of (first + 1) counts) (rest (λ before. absurd (omega (arith, before, more))) (λ past. omega (arith, near, more, is, at_most)))

from_zero : (place most count first : ℕ) (counts : List ℕ) → IsPlaceOf place most count → count ≤ first → Reaches place most counts 1
    → (place < first → most - first + place < suc (length counts)) → (0 ≡ place) ⊎ ((0 < place) ⊎ (place < 0)) → Contains (0 ∷ places_of 1 counts) place
from_zero place most count first counts is_place is rest behind (inl same) = here 0 place (places_of 1 counts) same
from_zero place most count first counts is_place is rest behind (inr (inl some)) =
    let within = is_place.0 in
    let near = behind (omega (arith, is, within)) in
    later 0 place (places_of 1 counts) (rest (λ before. omega (arith, near, some)) (λ past. absurd (omega (arith, past, some))))
from_zero place most count first counts is_place is rest behind (inr (inr none)) = absurd (omega (arith, none))

from_next : (place most count first : ℕ) (counts : List ℕ) → IsPlaceOf place most count → ((next : ℕ) → Reaches place most counts next)
    → (first ≤ place → place - first < suc (length counts)) → (place < first → most - first + place < suc (length counts)) → (b : Bool) → nat_lt first count ≡ b
    → Contains (places_of first (count ∷ counts)) place
from_next place most count first counts is_place rest ahead behind true is =
    subst (λ (n : ℕ). Contains (n ∷ places_of (n + 1) counts) place) (sym (first_is_next count first is))
    (from_first place most count first counts is_place (ltb-true first count is) (rest (first + 1)) ahead behind (order first place))
from_next place most count first counts is_place rest ahead behind false is =
    let past = ltb-false first count is in
    subst (λ (n : ℕ). Contains (n ∷ places_of (n + 1) counts) place) (sym (zero_is_next count first is))
    (from_zero place most count first counts is_place (omega (arith, past)) (rest 1) behind (order 0 place))

reached : (place most : ℕ) (counts : List ℕ) → AllByRecursion (IsPlaceOf place most) counts → (first : ℕ) → Reaches place most counts first
reached place most [] all first ahead behind = by (order first place)
  where
    by : (first ≡ place) ⊎ ((first < place) ⊎ (place < first)) → Contains (places_of first []) place
    by (inl same) = let none = ahead (omega (arith, same)) in absurd (omega (arith, none))
    by (inr (inl less)) = let none = ahead (omega (arith, less)) in absurd (omega (arith, none))
    by (inr (inr more)) = let none = behind more in absurd (omega (arith, none))
reached place most (count ∷ counts) all first ahead behind =
    from_next place most count first counts all.0 (λ next. reached place most counts all.1 next) ahead behind (nat_lt first count) refl

-- Each place has its turn within as many turns as there are places at most.
pub has_its_turn : (first place most : ℕ) (counts : List ℕ) → place < most → AllByRecursion (IsPlaceOf place most) counts → most ≤ length counts → Contains (places_of first counts) place
has_its_turn first place most counts within all enough =
    reached place most counts all first (λ before. omega (arith, within, enough, before)) (λ past. omega (arith, within, enough, past))

-- one more turn
one_turn_more : (turns count first next : ℕ) → next ≡ next_place count (first_after turns count first) + 1 → next ≡ first_after (suc turns) count first
one_turn_more zero count first next is = is
one_turn_more (suc turns) count first next is = one_turn_more turns count (next_place count first + 1) next is

-- one more turn of a table with as many places
pub turn_more : (turns count now first at next : ℕ) → now ≡ count → at ≡ first_after turns count first → next ≡ next_place now at + 1 → next ≡ first_after (turns + 1) count first
turn_more turns count now first at next same is one =
    let plus : suc turns ≡ turns + 1 = omega arith in
    subst (λ (n : ℕ). next ≡ first_after n count first) plus (one_turn_more turns count first next (one ∙ (λ j. next_place (same j) (is j) + 1)))

-- ---- a place of a table

pub set_length : {A : Type 0} (xs : List A) (i : ℕ) (x : A) → length (slice_set xs i x) ≡ length xs
set_length [] i x = refl
set_length (y ∷ ys) zero x = refl
set_length (y ∷ ys) (suc i) x = ap suc (set_length ys i x)

-- another place is as it was
pub set_other : {A : Type 0} (xs : List A) (i other : ℕ) (x : A) → (other ≡ i → ⊥) → slice_get (slice_set xs i x) other ≡ slice_get xs other
set_other [] i other x differ = refl
set_other (y ∷ ys) zero zero x differ = absurd (differ refl)
set_other (y ∷ ys) zero (suc other) x differ = refl
set_other (y ∷ ys) (suc i) zero x differ = refl
set_other (y ∷ ys) (suc i) (suc other) x differ = set_other ys i other x (λ same. differ (ap suc same))

-- a place is set to what is there
pub set_same : {A : Type 0} (xs : List A) (i : ℕ) (x : A) → slice_get xs i ≡ Some x → slice_set xs i x ≡ xs
set_same [] i x found = refl
set_same (y ∷ ys) zero x found = cc
set_same {A} (y ∷ ys) (suc i) x found = ap (λ (zs : List A). y ∷ zs) (set_same ys i x found)
