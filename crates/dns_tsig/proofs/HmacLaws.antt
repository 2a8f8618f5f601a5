-- Keys of one block, and codes that are compared.
use Rattle.std.proofs.Common.{◌≡◌, ℕ, ◌+◌, ◌-◌, ◌<◌, ◌≤◌, ◌↔◌, ◌++◌, List, [], ◌∷◌, length, take, replicate, get_or, sym, ap, ◌∙◌, arith}
use Rattle.std.specs.Prelude.{bit_or, bit_xor}
use Rattle.std.proofs.lemmas.Nat.{le_or_l, le_or_r}
use Rattle.std.proofs.lemmas.List.{append_assoc, replicate_more, take_more, take_more_same, same_from_push}
use lib.Bits.{xor_assoc, xor_self, xor_zero_r, or_zero_l}

-- a further zero follows a key
pub one_more_zero : (block key : List ℕ) (count n : ℕ) → block ≡ key ++ replicate (count - n) 0 → n ≤ count
    → block ++ 0 ∷ [] ≡ key ++ replicate (count + 1 - n) 0
one_more_zero block key count n e h =
    let next : count + 1 - n ≡ count - n + 1 = omega arith in
    ap (λ (l : List ℕ). l ++ 0 ∷ []) e ∙ append_assoc key (replicate (count - n) 0) (0 ∷ [])
    ∙ ap (λ (l : List ℕ). key ++ l) (replicate_more (count - n) 0)
    ∙ ap (λ (k : ℕ). key ++ replicate k 0) (sym next)

-- ---- bytes that differ

xor_same : (a b : ℕ) → bit_xor a b ≡ 0 → a ≡ b
xor_same a b e =
    sym (xor_zero_r a) ∙ ap (λ (n : ℕ). bit_xor a n) (sym (xor_self b)) ∙ sym (xor_assoc a b b) ∙ ap (λ (n : ℕ). bit_xor n b) e

-- the difference with that of two further bytes is zero exactly if these are equal too
pub one_more_byte : (difference i : ℕ) (code other : List ℕ) → i < length code → length code ≡ length other
    → (difference ≡ 0) ↔ (take i code ≡ take i other)
    → (bit_or difference (bit_xor (get_or code i 0) (get_or other i 0)) ≡ 0) ↔ (take (i + 1) code ≡ take (i + 1) other)
one_more_byte difference i code other within same before =
    let within' : i < length other = omega arith in (
      λ e.
          let none : difference ≡ 0 = omega (arith, e, le_or_l difference (bit_xor (get_or code i 0) (get_or other i 0))) in
          let equal : bit_xor (get_or code i 0) (get_or other i 0) ≡ 0 = omega (arith, e, le_or_r difference (bit_xor (get_or code i 0) (get_or other i 0))) in
          take_more_same code other i 0 within within' (before.0 none) (xor_same (get_or code i 0) (get_or other i 0) equal),
      λ e.
          let both = same_from_push (take i code) (take i other) (get_or code i 0) (get_or other i 0) (sym (take_more code i 0 within) ∙ e ∙ take_more other i 0 within') in
          ap (λ (n : ℕ). bit_or n (bit_xor (get_or code i 0) (get_or other i 0))) (before.1 both.0)
          ∙ or_zero_l (bit_xor (get_or code i 0) (get_or other i 0))
          ∙ ap (λ (n : ℕ). bit_xor n (get_or other i 0)) both.1 ∙ xor_self (get_or other i 0),
    )
