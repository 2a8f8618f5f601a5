-- The position of an item in a list that grows at its end.
use Rattle.std.proofs.Common.{◌≡◌, ◌<◌, ◌+◌, ℕ, suc, Bool, true, false, not, cond, List, [], ◌∷◌, ◌++◌, length, refl, sym, ap, ◌∙◌, arith, Option, Some, None}
use Rattle.std.specs.Prelude.{nat_lt, position}
use Rattle.std.specs.List.{position_or_len}
use Rattle.std.proofs.lemmas.Bool.{lt-ltb, ltb-true, ltb_from_iff}
use Rattle.dns_records.specs.internal.DataIndex.{first_of}

-- the position behind a first item
unfoldable next : Option ℕ → Option ℕ
next None = None
next (Some n) = Some (1 + n)

next_of : (b : Bool) (n : ℕ) → cond b (Some (1 + n)) None ≡ next (cond b (Some n) None)
unfolding next
next_of true n = refl
next_of false n = refl

more_within : (n len : ℕ) → nat_lt n len ≡ nat_lt (1 + n) (suc len)
more_within n len = ltb_from_iff (λ e. let h : n < len = ltb-true n len e in omega arith, λ (h : 1 + n < suc len). lt-ltb n len (omega arith))

position_by : (b : Bool) (n len : ℕ) → cond (nat_lt (cond (not b) (1 + n) 0) (suc len)) (Some (cond (not b) (1 + n) 0)) None ≡ cond b (Some 0) (next (cond (nat_lt n len) (Some n) None))
position_by true n len = ap (λ e. cond e (Some 0) None) (lt-ltb 0 (suc len) (omega arith))
position_by false n len = ap (λ e. cond e (Some (1 + n)) None) (sym (more_within n len)) ∙ next_of (nat_lt n len) n

-- the position in a list with one more item in front
position_cons : {A : Type 0} (p : A → Bool) (x : A) (xs : List A) → position p (x ∷ xs) ≡ cond (p x) (Some 0) (next (position p xs))
position_cons p x xs = position_by (p x) (position_or_len p xs) (length xs)

one_more : (n : ℕ) → 1 + n ≡ suc n
one_more n = omega arith

behind_first : (b c : Bool) (o : Option ℕ) (n : ℕ) → cond b (Some 0) (next (first_of o c n)) ≡ first_of (cond b (Some 0) (next o)) c (suc n)
unfolding next
behind_first true c o n = refl
behind_first false c (Some k) n = refl
behind_first false true None n = ap (λ k. Some k) (one_more n)
behind_first false false None n = refl

alone : (b : Bool) → cond b (Some 0) (next None) ≡ first_of None b 0
unfolding next
alone true = refl
alone false = refl

-- the position in a list with one more item at the end
pub position_push : {A : Type 0} (p : A → Bool) (xs : List A) (x : A) → position p (xs ++ x ∷ []) ≡ first_of (position p xs) (p x) (length xs)
position_push p [] x = position_cons p x [] ∙ alone (p x)
position_push p (y ∷ ys) x =
    position_cons p y (ys ++ x ∷ [])
    ∙ ap (λ o. cond (p y) (Some 0) (next o)) (position_push p ys x)
    ∙ behind_first (p y) (p x) (position p ys) (length ys)
    ∙ ap (λ o. first_of o (p x) (suc (length ys))) (sym (position_cons p y ys))
