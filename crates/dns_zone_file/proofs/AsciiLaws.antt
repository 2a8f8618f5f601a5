-- Text that is ASCII, octet by octet.
use Rattle.std.proofs.Common.{◌≡◌, ◌≤◌, ◌&&◌, ℕ, zero, suc, true, false, List, [], ◌∷◌, refl, ap, arith, slice_index}
use Rattle.std.proofs.lemmas.Bool.Decides.{nat_tests}
use Rattle.std.specs.Char.{is_ascii}
use Rattle.std.specs.List.{list_all}
use Rattle.std.specs.Str.{IsAscii, IsNotAscii}

pub all_ascii : (text : List ℕ) → IsAscii text → list_all is_ascii text ≡ true
all_ascii [] h = refl
all_ascii (c ∷ text) h =
    let front : is_ascii c ≡ true = grind (arith, nat_tests, h 0) in
    rw (front) (all_ascii text (λ i. h (suc i)))

some_not_ascii : (text : List ℕ) (i : ℕ) → 128 ≤ slice_index text i → list_all is_ascii text ≡ false
some_not_ascii [] i h = absurd (omega (arith, h))
some_not_ascii (c ∷ text) zero h = let front : is_ascii c ≡ false = grind (arith, nat_tests, h) in ap (λ b. b && list_all is_ascii text) front
some_not_ascii (c ∷ text) (suc i) h = grind (arith, nat_tests, some_not_ascii text i h)

pub not_all_ascii : (text : List ℕ) → IsNotAscii text → list_all is_ascii text ≡ false
not_all_ascii text (i, h) = some_not_ascii text i h
