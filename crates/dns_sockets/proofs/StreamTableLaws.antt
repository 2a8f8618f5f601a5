-- The connection that was active least recently, of those up to an index.
use Rattle.std.proofs.Common.{◌≡◌, ◌<◌, ◌≤◌, ◌+◌, ◌⊎◌, inl, inr, ℕ, zero, suc, Bool, true, false, cond, add-zero, take, List, [], ◌∷◌, length, get_or, refl, sym, ap, subst, ◌∙◌, arith, Option, Some, None}
use Rattle.std.specs.Prelude.{nat_lt, option_map, slice_get, slice_set, IsSomeAnd}
use Rattle.std.proofs.lemmas.Bool.{ltb-true, ltb-false, lt-ltb}
use Rattle.dns_sockets.specs.declared.stream.Stream.{Stream}
use Rattle.std.proofs.lemmas.List.Filters.{length-filter_more}
use Rattle.dns_sockets.specs.Stream.{noted}
use Rattle.dns_sockets.specs.StreamTable.{has_transfer, is_less_active, noted_at, transfers}

not_true : (b : Bool) → (b ≡ true → ⊥) → b ≡ false
not_true true f = absurd (f refl)
not_true false f = refl

both : (b : Bool) → b ≡ true → b ≡ false → ⊥
both true e f = cc
both false e f = cc

-- ---- the order

irreflexive : (slot : Option Stream) → is_less_active slot slot ≡ false
irreflexive None = refl
irreflexive (Some s) = not_true (nat_lt s.last_activity s.last_activity) (λ e. let h = ltb-true s.last_activity s.last_activity e in omega (arith, h))

before_later : (a b c : ℕ) → nat_lt a b ≡ false → nat_lt c b ≡ true → nat_lt a c ≡ false
before_later a b c late early = not_true (nat_lt a c) (λ e.
    let first = ltb-true a c e in
    let second = ltb-true c b early in
    both (nat_lt a b) (lt-ltb a b (omega (arith, first, second))) late)

beside_least : (other least slot : Option Stream) → is_less_active other least ≡ false → is_less_active slot least ≡ true → is_less_active other slot ≡ false
beside_least None least slot late early = refl
beside_least (Some a) None slot late early = absurd (cc)
beside_least (Some a) (Some b) None late early = absurd (cc)
beside_least (Some a) (Some b) (Some c) late early = before_later a.last_activity b.last_activity c.last_activity late early

-- ---- places

pub found_at : {A : Type 0} (xs : List A) (i : ℕ) (x : A) → i < length xs → x ≡ get_or xs i x → slice_get xs i ≡ Some x
found_at [] i x h e = absurd (omega (arith, h))
found_at (y ∷ ys) zero x h e = ap Some (sym e)
found_at (y ∷ ys) (suc i) x h e = found_at ys i x (omega (arith, h)) e

within : {A : Type 0} (xs : List A) (i : ℕ) (x : A) → slice_get xs i ≡ Some x → i < length xs
within [] i x e = absurd (cc)
within (y ∷ ys) zero x e = omega arith
within (y ∷ ys) (suc i) x e = let h = within ys i x e in omega (arith, h)

last_or : (m n : ℕ) → m < n + 1 → (m < n) ⊎ (m ≡ n)
last_or m n h = by (nat_lt m n) refl
  where
    by : (b : Bool) → nat_lt m n ≡ b → (m < n) ⊎ (m ≡ n)
    by true e = inl (ltb-true m n e)
    by false e = let past = ltb-false m n e in inr (omega (arith, h, past))

-- ---- up to an index

-- none of so many first connections was last active before the one at an index
abbrev pub IsLeast : List (Option Stream) → ℕ → ℕ → Type 0
IsLeast slots index count =
    (other : ℕ) (slot : Option Stream) → other < count → slice_get slots other ≡ Some slot
    → IsSomeAnd (slice_get slots index) (λ least. is_less_active slot least ≡ false)

pub none_yet : (slots : List (Option Stream)) → IsLeast slots 0 0
none_yet slots other slot h found = absurd (omega (arith, h))

of_some : (P : Option Stream → Type 0) (o : Option (Option Stream)) (x : Option Stream) → o ≡ Some x → P x → IsSomeAnd o P
of_some P o x e p = subst (λ (p : Option (Option Stream)). IsSomeAnd p P) (sym e) p

in_some : (P : Option Stream → Type 0) (o : Option (Option Stream)) (x : Option Stream) → o ≡ Some x → IsSomeAnd o P → P x
in_some P o x e p = subst (λ (p : Option (Option Stream)). IsSomeAnd p P) e p

or_else : Option Stream → Option (Option Stream) → Option Stream
or_else y None = y
or_else y (Some z) = z

same : (x y : Option Stream) (o : Option (Option Stream)) → o ≡ Some x → o ≡ Some y → x ≡ y
unfolding or_else
same x y o e f = ap (or_else y) (sym e ∙ f)

pub taken : (slots : List (Option Stream)) (least i : ℕ) (l s : Option Stream) → slice_get slots least ≡ Some l → slice_get slots i ≡ Some s → is_less_active s l ≡ true
    → IsLeast slots least i → IsLeast slots i (i + 1)
taken slots least i l s at_least at_i early so_far other slot h found = of_some (λ x. is_less_active slot x ≡ false) (slice_get slots i) s at_i (by (last_or other i h))
  where
    by : (other < i) ⊎ (other ≡ i) → is_less_active slot s ≡ false
    by (inl less) = beside_least slot l s (in_some (λ x. is_less_active slot x ≡ false) (slice_get slots least) l at_least (so_far other slot less found)) early
    by (inr here) =
        let slot_is : slot ≡ s = same slot s (slice_get slots i) (sym (ap (slice_get slots) here) ∙ found) at_i in
        ap (λ x. is_less_active x s) slot_is ∙ irreflexive s

pub left : (slots : List (Option Stream)) (least i : ℕ) (l s : Option Stream) → slice_get slots least ≡ Some l → slice_get slots i ≡ Some s → is_less_active s l ≡ false
    → IsLeast slots least i → IsLeast slots least (i + 1)
left slots least i l s at_least at_i late so_far other slot h found = by (last_or other i h)
  where
    by : (other < i) ⊎ (other ≡ i) → IsSomeAnd (slice_get slots least) (λ x. is_less_active slot x ≡ false)
    by (inl less) = so_far other slot less found
    by (inr here) =
        let slot_is : slot ≡ s = same slot s (slice_get slots i) (sym (ap (slice_get slots) here) ∙ found) at_i in
        of_some (λ x. is_less_active slot x ≡ false) (slice_get slots least) l at_least (ap (λ x. is_less_active x l) slot_is ∙ late)

pub of_all : (slots : List (Option Stream)) (index count : ℕ) → length slots ≤ count → IsLeast slots index count
    → (other : ℕ) (slot : Option Stream) → slice_get slots other ≡ Some slot → IsSomeAnd (slice_get slots index) (λ least. is_less_active slot least ≡ false)
of_all slots index count all least other slot found =
    let h = within slots other slot found in
    least other slot (omega (arith, h, all)) found

-- ---- replies of several messages

-- one more connection is counted
pub one_more : (slots : List (Option Stream)) (i count : ℕ) (d : Option Stream) → i < length slots → count ≡ transfers (take i slots) → true ≡ has_transfer (get_or slots i d) → count + 1 ≡ transfers (take (i + 1) slots)
one_more slots i count d inside is e =
    ap (λ (n : ℕ). n + 1) is ∙ ap (λ (b : Bool). transfers (take i slots) + cond b 1 0) e ∙ sym (length-filter_more has_transfer slots i d inside)

-- or not
pub none_more : (slots : List (Option Stream)) (i count : ℕ) (d : Option Stream) → i < length slots → count ≡ transfers (take i slots) → false ≡ has_transfer (get_or slots i d) → count ≡ transfers (take (i + 1) slots)
none_more slots i count d inside is e =
    is ∙ sym (add-zero (transfers (take i slots))) ∙ ap (λ (b : Bool). transfers (take i slots) + cond b 1 0) e ∙ sym (length-filter_more has_transfer slots i d inside)

-- ---- what the system says

-- a slot is changed at its place
pub noted_here : (slots : List (Option Stream)) (i : ℕ) (r w : Bool) (slot : Option Stream) → slice_get slots i ≡ Some slot
    → slice_set slots i (option_map (noted r w) slot) ≡ noted_at slots i r w
noted_here [] i r w slot found = absurd (cc)
noted_here (x ∷ xs) zero r w slot found = cc
noted_here (x ∷ xs) (suc i) r w slot found = ap (λ (ys : List (Option Stream)). x ∷ ys) (noted_here xs i r w slot found)

-- a place without a connection stays so
pub noted_none : (slots : List (Option Stream)) (i : ℕ) (r w : Bool) (slot : Option Stream) → slice_get slots i ≡ Some slot → slot ≡ None
    → slice_set slots i slot ≡ noted_at slots i r w
noted_none slots i r w slot found none =
    ap (slice_set slots i) (none ∙ sym (ap (option_map (noted r w)) none)) ∙ noted_here slots i r w slot found

-- there is no such place
pub noted_past : (slots : List (Option Stream)) (i : ℕ) (r w : Bool) → length slots ≤ i → slots ≡ noted_at slots i r w
noted_past [] i r w past = refl
noted_past (x ∷ xs) zero r w past = absurd (omega (arith, past))
noted_past (x ∷ xs) (suc i) r w past = ap (λ (ys : List (Option Stream)). x ∷ ys) (noted_past xs i r w (omega (arith, past)))
