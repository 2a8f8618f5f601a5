-- The length of a word without quotation marks.
use Rattle.std.proofs.Common.{◌≡◌, ◌≤◌, ◌+◌, ℕ, Bool, true, false, cond, List, [], ◌∷◌, suc, length, Some, None, refl, arith}
use Rattle.std.specs.Prelude.{nat_lt, not}
use Rattle.std.specs.List.{position, position_or_len}
use Rattle.std.proofs.lemmas.Bool.Decides.{nat_tests}
use Rattle.dns_keys.specs.Word.{is_end}

some-of : (b : Bool) (k i : ℕ) → Some i ≡ cond b (Some k) None → i ≡ k
some-of true k i h = grind (arith, h)
some-of false k i h = grind (arith, h)

none-of : (b : Bool) (k n : ℕ) → nat_lt k n ≡ b → None ≡ cond b (Some k) None → k ≤ n → n ≡ k
none-of true k n e h l = grind (arith, h)
none-of false k n e h l = grind (arith, nat_tests, e, l)

-- a word ends at the first octet that ends one
pub place-is : (text : List ℕ) (i : ℕ) → Some i ≡ position is_end text → i ≡ position_or_len is_end text
place-is text i h = some-of (nat_lt (position_or_len is_end text) (length text)) (position_or_len is_end text) i h

-- no word is longer than the text
pub word-within : (text : List ℕ) → position_or_len is_end text ≤ length text
word-within [] = omega arith
word-within (c ∷ cs) = by_first (is_end c) (word-within cs)
  where
    by_first : (b : Bool) → position_or_len is_end cs ≤ length cs → cond (not b) (1 + position_or_len is_end cs) 0 ≤ suc (length cs)
    by_first true h = omega arith
    by_first false h = omega (arith, h)

-- without an octet that ends it, the word is the text
pub no-place : (text : List ℕ) → None ≡ position is_end text → length text ≡ position_or_len is_end text
no-place text h =
    none-of (nat_lt (position_or_len is_end text) (length text)) (position_or_len is_end text) (length text) refl h (word-within text)
