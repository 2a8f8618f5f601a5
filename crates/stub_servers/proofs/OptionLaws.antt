-- Numbers of options.
use Rattle.std.proofs.Common.{◌≡◌, ℕ, ◌+◌, ◌-◌, ◌*◌, ◌<◌, Bool, true, false, cond, List, [], ◌∷◌, refl, arith, ap, sym, ◌∙◌, length, drop, get_or, drop-cons, add-one}
use Rattle.std.specs.Prelude.{min}
use Rattle.std.specs.Char.{is_ascii_digit}
use Rattle.stub_servers.specs.resolv_conf.Options.{number_from}

capped-digit : (g m n d : ℕ) → min g m ≡ min g n → min g (10 * m + d) ≡ min g (10 * n + d)
capped-digit g m n d e = omega arith

-- a number that is capped before further digits is the same once it is capped after them
pub capped : (g m n : ℕ) (text : List ℕ) → min g m ≡ min g n → min g (number_from m text) ≡ min g (number_from n text)
capped g m n [] e = e
capped g m n (c ∷ cs) e =
    by_digit (is_ascii_digit c) (capped g (10 * m + (c - 48)) (10 * n + (c - 48)) cs (capped-digit g m n (c - 48) e))
  where
    by_digit : (b : Bool) → min g (number_from (10 * m + (c - 48)) cs) ≡ min g (number_from (10 * n + (c - 48)) cs)
        → min g (cond b (number_from (10 * m + (c - 48)) cs) m) ≡ min g (cond b (number_from (10 * n + (c - 48)) cs) n)
    by_digit true h = h
    by_digit false h = e

digit-next : (n c : ℕ) (rest : List ℕ) → is_ascii_digit c ≡ true → number_from n (c ∷ rest) ≡ number_from (10 * n + (c - 48)) rest
digit-next n c rest e = by_digit (is_ascii_digit c) e
  where
    by_digit : (b : Bool) → b ≡ true → cond b (number_from (10 * n + (c - 48)) rest) n ≡ number_from (10 * n + (c - 48)) rest
    by_digit true h = refl
    by_digit false h = absurd (cc)

-- a digit is counted, and the rest of the text completes the number
pub number-turn : (g n next : ℕ) (text : List ℕ) (i : ℕ) → i < length text → is_ascii_digit (get_or text i 0) ≡ true
    → next ≡ min g (10 * n + (get_or text i 0 - 48)) → min g (number_from n (drop i text)) ≡ min g (number_from 0 text)
    → min g (number_from next (drop (i + 1) text)) ≡ min g (number_from 0 text)
number-turn g n next text i within digit is e =
    let here : drop i text ≡ get_or text i 0 ∷ drop (i + 1) text = rw (add-one, drop-cons text i 0 within) refl in
    let same : min g next ≡ min g (10 * n + (get_or text i 0 - 48)) = omega arith in
    capped g next (10 * n + (get_or text i 0 - 48)) (drop (i + 1) text) same
    ∙ (ap (λ (m : ℕ). min g m) (sym (ap (number_from n) here ∙ digit-next n (get_or text i 0) (drop (i + 1) text) digit)) ∙ e)
