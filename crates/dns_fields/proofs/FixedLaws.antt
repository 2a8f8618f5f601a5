-- The place of the first dot.
use Rattle.std.proofs.Common.{◌≡◌, ◌≤◌, ◌+◌, ℕ, Bool, true, false, cond, List, [], ◌∷◌, suc, length, Some, None, refl, arith}
use Rattle.std.specs.Prelude.{◌==◌, nat_lt, not}
use Rattle.std.specs.List.{position, position_or_len}
use Rattle.std.proofs.lemmas.Bool.Decides.{nat_tests}

some_of : (b : Bool) (k i : ℕ) → Some i ≡ cond b (Some k) None → i ≡ k
some_of true k i h = grind (arith, h)
some_of false k i h = grind (arith, h)

none_of : (b : Bool) (k n : ℕ) → nat_lt k n ≡ b → None ≡ cond b (Some k) None → k ≤ n → n ≡ k
none_of true k n e h l = grind (arith, h)
none_of false k n e h l = grind (arith, nat_tests, e, l)

abbrev is_it : ℕ → Bool
is_it c = c == 46

pub place_is : (text : List ℕ) (i : ℕ) → Some i ≡ position (λ c. c == 46) text → i ≡ position_or_len (λ c. c == 46) text
place_is text i h = some_of (nat_lt (position_or_len is_it text) (length text)) (position_or_len is_it text) i h

within : (text : List ℕ) → position_or_len is_it text ≤ length text
within [] = omega arith
within (c ∷ cs) = by_first (is_it c) (within cs)
  where
    by_first : (b : Bool) → position_or_len is_it cs ≤ length cs → cond (not b) (1 + position_or_len is_it cs) 0 ≤ suc (length cs)
    by_first true h = omega arith
    by_first false h = omega (arith, h)

pub no_place : (text : List ℕ) → None ≡ position (λ c. c == 46) text → length text ≡ position_or_len (λ c. c == 46) text
no_place text h = none_of (nat_lt (position_or_len is_it text) (length text)) (position_or_len is_it text) (length text) refl h (within text)
