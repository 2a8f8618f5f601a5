-- The text of numbers, digit by digit.
use Rattle.std.proofs.Common.{◌≡◌, ℕ, zero, suc, ◌+◌, ◌-◌, ◌/◌, ◌%◌, ◌<◌, List, [], ◌∷◌, ◌++◌, refl, sym, ap, ◌∙◌, append_assoc, arith}
use Rattle.dns_zone_file.specs.templates.Number.{radix, digit, digits, nibbles}
use Rattle.dns_zone_file.specs.declared.templates.form.Base.{Base}

-- one more digit at the end
pub one_digit : (base : Base) (count n r d : ℕ) (old mid new : List ℕ) → 0 < count → r ≡ radix base → d ≡ digit base (n % r)
    → mid ≡ old ++ digits base (count - 1) (n / r) → new ≡ mid ++ d ∷ [] → new ≡ old ++ digits base count n
one_digit base zero n r d old mid new some is last e f = absurd (omega arith)
one_digit base (suc count) n r d old mid new some is last e f =
    let fewer : suc count - 1 ≡ count = omega arith in
    f ∙ ap (λ (l : List ℕ). l ++ d ∷ []) (e ∙ ap (λ (k : ℕ). old ++ digits base k (n / r)) fewer) ∙ append_assoc old (digits base count (n / r)) (d ∷ [])
    ∙ ap (λ (c : ℕ). old ++ (digits base count (n / r) ++ c ∷ [])) last
    ∙ ap (λ (k : ℕ). old ++ (digits base count (n / k) ++ digit base (n % k) ∷ [])) is

-- one more nibble in front
pub one_nibble : (base : Base) (len n d : ℕ) (old first second new : List ℕ) → 1 < len → d ≡ digit base (n % 16)
    → first ≡ old ++ d ∷ [] → second ≡ first ++ 46 ∷ [] → new ≡ second ++ nibbles base (len - 2) (n / 16) → new ≡ old ++ nibbles base len n
one_nibble base zero n d old first second new some is e f g = absurd (omega arith)
one_nibble base (suc zero) n d old first second new some is e f g = absurd (omega arith)
one_nibble base (suc (suc len)) n d old first second new some is e f g =
    let fewer : suc (suc len) - 2 ≡ len = omega arith in
    g ∙ ap (λ (k : ℕ). second ++ nibbles base k (n / 16)) fewer ∙ ap (λ (l : List ℕ). l ++ nibbles base len (n / 16)) (f ∙ ap (λ (l : List ℕ). l ++ 46 ∷ []) e)
    ∙ append_assoc (old ++ d ∷ []) (46 ∷ []) (nibbles base len (n / 16))
    ∙ append_assoc old (d ∷ []) (46 ∷ nibbles base len (n / 16))
    ∙ ap (λ (c : ℕ). old ++ c ∷ 46 ∷ nibbles base len (n / 16)) is
