-- Addresses that begin with the same bits.
use Rattle.std.proofs.Common.{◌≡◌, ◌-◌, ℕ, Bool, true, false, ◌&&◌, List, [], ◌∷◌, refl, ap, ◌∙◌, length, suc}
use Rattle.dns_server.specs.AddressList.{same_bits, same_front}

and-false : (a : Bool) → (a && false) ≡ false
and-false true = refl
and-false false = refl

-- octets of another number do not
pub other-length : (bits : ℕ) (one other : List ℕ) → (length one ≡ length other → ⊥) → same_bits bits one other ≡ false
other-length bits [] [] differ = absurd (differ refl)
other-length bits [] (b ∷ other) differ = refl
other-length bits (a ∷ one) [] differ = refl
other-length bits (a ∷ one) (b ∷ other) differ =
    ap (λ (r : Bool). same_front bits a b && r) (other-length (bits - 8) one other (λ e. differ (ap (λ (n : ℕ). suc n) e)))
    ∙ and-false (same_front bits a b)
