-- Keys are ordered by the numbers that their first bytes make, where these differ.
use Rattle.std.proofs.Common.{ℕ, zero, suc, ◌+◌, ◌-◌, ◌*◌, ◌^◌, ◌≡◌, ◌≢◌, ◌<◌, ◌≤◌, List, [], ◌∷◌, drop, get_or, refl, sym, ap, add-one, ◌∙◌, subst, arith, Ordering, Less, Equal, Greater, ◌⊎◌, inl, inr}
use Rattle.std.proofs.Math.Nat.{mul-le-mul_right}
use Rattle.std.proofs.lemmas.Bool.{cases_order}
use Rattle.std.specs.Cmp.{nat_cmp_is}
use Rattle.std.specs.Cmp.Lexicographic.{slice_cmp, nat_list_cmp_total}
use Rattle.std.specs.Ordering.{nat_cmp, ordering_then, ordering_reverse}
use Rattle.dns_updates.specs.internal.OwnerKeys.{front, HasFront, AreOctets}

-- a digit and less than its worth below it are less than the next digit
digit_below : (worth b c rest : ℕ) → b < c → rest < worth → b * worth + rest < c * worth
digit_below worth b c rest less small = let more : suc b * worth ≤ c * worth = mul-le-mul_right worth less in omega (arith, more, small)

tail_octets : (b : ℕ) (bytes : List ℕ) → AreOctets (b ∷ bytes) → AreOctets bytes
tail_octets b bytes all = λ i. all (suc i)

front_small : (n : ℕ) (bytes : List ℕ) → AreOctets bytes → front n bytes < 256 ^ n
front_small zero bytes all = omega arith
front_small (suc n) [] all = let more = front_small n [] all in omega (arith, more)
front_small (suc n) (b ∷ bytes) all =
    let below = digit_below (256 ^ n) b 256 (front n bytes) (all 0) (front_small n bytes (tail_octets b bytes all)) in omega (arith, below)

worth_next : (b worth : ℕ) → b * (256 * worth) ≡ b * worth * 256
worth_next b worth = grind arith

next_worth : (n : ℕ) → 256 ^ suc n ≡ 256 * 256 ^ n
next_worth n = omega arith

front_none : (n : ℕ) → front n [] ≡ 0
front_none zero = refl
front_none (suc n) = refl

-- one byte more
front_next : (n : ℕ) (bytes : List ℕ) → front (suc n) bytes ≡ front n bytes * 256 + get_or bytes n 0
front_next n [] = let none = front_none n in omega (arith, none)
front_next zero (b ∷ bytes) = omega arith
front_next (suc n) (b ∷ bytes) =
    let more = front_next n bytes in
    let worth : b * 256 ^ suc n ≡ b * 256 ^ n * 256 = ap (λ (w : ℕ). b * w) (next_worth n) ∙ worth_next b (256 ^ n) in omega (arith, more, worth)

pub front_more : (n : ℕ) (bytes : List ℕ) → front (n + 1) bytes ≡ front n bytes * 256 + get_or bytes n 0
front_more n bytes = ap (λ (m : ℕ). front m bytes) (add-one n) ∙ front_next n bytes

grows : (n k : ℕ) → 256 ^ n ≤ 256 ^ (n + k)
grows n zero =
    let same : n ≡ n + 0 = omega arith in let now : 256 ^ n ≤ 256 ^ n = omega arith in subst (λ (m : ℕ). 256 ^ n ≤ 256 ^ m) same now
grows n (suc k) =
    let less = grows n k in
    let next : 256 ^ (n + suc k) ≡ 256 * 256 ^ (n + k) = ap (λ (m : ℕ). 256 ^ m) (omega arith) ∙ next_worth (n + k) in omega (arith, less, next)

-- up to fifteen bytes, another one has room in 128 bits
pub front_fits : (n : ℕ) (bytes : List ℕ) → AreOctets bytes → n < 16 → front n bytes < 256 ^ 15
front_fits n bytes all short =
    let small = front_small n bytes all in
    let all_of : n + (15 - n) ≡ 15 = omega (arith, short) in
    let most : 256 ^ n ≤ 256 ^ 15 = subst (λ (m : ℕ). 256 ^ n ≤ 256 ^ m) all_of (grows n (15 - n)) in omega (arith, small, most)

less_first : (x y : ℕ) (r : Ordering) → x < y → ordering_then (nat_cmp x y) r ≡ Less
less_first x y r less = ap (λ (o : Ordering). ordering_then o r) (sym (nat_cmp_is x y Less less))

equal_first : (x y : ℕ) (r : Ordering) → x ≡ y → ordering_then (nat_cmp x y) r ≡ r
equal_first x y r same = ap (λ (o : Ordering). ordering_then o r) (sym (nat_cmp_is x y Equal same))

-- what the numbers say of the lists
front_less : (n : ℕ) (a b : List ℕ) → AreOctets a → AreOctets b → front n a < front n b → slice_cmp nat_cmp a b ≡ Less
front_less zero a b left right less = absurd (omega (arith, less))
front_less (suc n) [] [] left right less = absurd (omega (arith, less))
front_less (suc n) [] (y ∷ ys) left right less = refl
front_less (suc n) (x ∷ xs) [] left right less = absurd (omega (arith, less))
front_less (suc n) (x ∷ xs) (y ∷ ys) left right less =
    by (front_less n xs ys (tail_octets x xs left) (tail_octets y ys right)) (front_small n ys (tail_octets y ys right)) (cases_order x y)
  where
    by : (front n xs < front n ys → slice_cmp nat_cmp xs ys ≡ Less) → front n ys < 256 ^ n → (x ≡ y) ⊎ ((x < y) ⊎ (y < x))
        → slice_cmp nat_cmp (x ∷ xs) (y ∷ ys) ≡ Less
    by rest small (inl same) =
        let worth : x * 256 ^ n ≡ y * 256 ^ n = ap (λ (b : ℕ). b * 256 ^ n) same in
        equal_first x y (slice_cmp nat_cmp xs ys) same ∙ rest (omega (arith, less, worth))
    by rest small (inr (inl first)) = less_first x y (slice_cmp nat_cmp xs ys) first
    by rest small (inr (inr first)) = let more = digit_below (256 ^ n) y x (front n ys) first small in absurd (omega (arith, less, more))

-- the same after bytes that make the same number
rest_less : (m n : ℕ) (a b : List ℕ) → AreOctets a → AreOctets b → front m a ≡ front m b → front n (drop m a) < front n (drop m b) → slice_cmp nat_cmp a b ≡ Less
rest_less zero n a b left right same less = front_less n a b left right less
rest_less (suc m) n [] [] left right same less = absurd (omega (arith, less))
rest_less (suc m) n [] (y ∷ ys) left right same less = refl
rest_less (suc m) n (x ∷ xs) [] left right same less = let none = front_none n in absurd (omega (arith, less, none))
rest_less (suc m) n (x ∷ xs) (y ∷ ys) left right same less =
    by (λ e. rest_less m n xs ys (tail_octets x xs left) (tail_octets y ys right) e less) (front_small m xs (tail_octets x xs left))
    (front_small m ys (tail_octets y ys right)) (cases_order x y)
  where
    by : (front m xs ≡ front m ys → slice_cmp nat_cmp xs ys ≡ Less) → front m xs < 256 ^ m → front m ys < 256 ^ m → (x ≡ y) ⊎ ((x < y) ⊎ (y < x))
        → slice_cmp nat_cmp (x ∷ xs) (y ∷ ys) ≡ Less
    by rest left_small right_small (inl first) =
        let worth : x * 256 ^ m ≡ y * 256 ^ m = ap (λ (b : ℕ). b * 256 ^ m) first in
        equal_first x y (slice_cmp nat_cmp xs ys) first ∙ rest (omega (arith, same, worth))
    by rest left_small right_small (inr (inl first)) = less_first x y (slice_cmp nat_cmp xs ys) first
    by rest left_small right_small (inr (inr first)) =
        let more = digit_below (256 ^ m) y x (front m ys) first right_small in absurd (omega (arith, same, more))

-- ---- keys

-- the order of two keys whose first numbers differ
pub by_first : (a b : List ℕ) (x y p q : ℕ) → HasFront a x p → HasFront b y q → x ≢ y → nat_cmp x y ≡ slice_cmp nat_cmp a b
by_first a b x y p q left right apart = by (cases_order x y)
  where
    turned : slice_cmp nat_cmp b a ≡ Less → Greater ≡ slice_cmp nat_cmp a b
    turned e = sym (nat_list_cmp_total.antisymm a b ∙ ap ordering_reverse e)

    by : (x ≡ y) ⊎ ((x < y) ⊎ (y < x)) → nat_cmp x y ≡ slice_cmp nat_cmp a b
    by (inl same) = absurd (apart same)
    by (inr (inl less)) =
        sym (nat_cmp_is x y Less less)
        ∙ sym (front_less 16 a b left.octets right.octets (let l = left.first in let r = right.first in omega (arith, less, l, r)))
    by (inr (inr more)) =
        sym (nat_cmp_is x y Greater more)
        ∙ turned (front_less 16 b a right.octets left.octets (let l = left.first in let r = right.first in omega (arith, more, l, r)))

-- the order of two keys whose second numbers differ, and not their first
pub by_second : (a b : List ℕ) (x y p q : ℕ) → HasFront a x p → HasFront b y q → x ≡ y → p ≢ q → nat_cmp p q ≡ slice_cmp nat_cmp a b
by_second a b x y p q left right same apart = by (cases_order p q)
  where
    fronts : front 16 a ≡ front 16 b
    fronts = sym left.first ∙ same ∙ right.first

    turned : slice_cmp nat_cmp b a ≡ Less → Greater ≡ slice_cmp nat_cmp a b
    turned e = sym (nat_list_cmp_total.antisymm a b ∙ ap ordering_reverse e)

    by : (p ≡ q) ⊎ ((p < q) ⊎ (q < p)) → nat_cmp p q ≡ slice_cmp nat_cmp a b
    by (inl equal) = absurd (apart equal)
    by (inr (inl less)) =
        sym (nat_cmp_is p q Less less)
        ∙ sym (rest_less 16 16 a b left.octets right.octets fronts (let l = left.second in let r = right.second in omega (arith, less, l, r)))
    by (inr (inr more)) =
        sym (nat_cmp_is p q Greater more)
        ∙ turned (rest_less 16 16 b a right.octets left.octets (sym fronts) (let l = left.second in let r = right.second in omega (arith, more, l, r)))
