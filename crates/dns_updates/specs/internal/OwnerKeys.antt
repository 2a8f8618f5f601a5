-- The first bytes of keys as numbers, by which most keys are compared.
use Rattle.std.specs.Prelude.{ℕ, ◌+◌, ◌*◌, ◌^◌, ◌≡◌, ◌<◌, zero, suc, List, [], ◌∷◌, drop, get_or, Some}
use Rattle.std.proofs.Common.{sym}
use Rattle.std.specs.Cmp.{IsTotalOrder, IsPartialOrder, po, nat_cmp_total}
use Rattle.std.specs.Cmp.Lexicographic.{lists_total}
use Rattle.std.specs.Ordering.{is_eq}
use Rattle.std.specs.Str.{bytes_eq}
use Rattle.std.proofs.lemmas.Map.Text.{is_eq-slice_cmp}
use Rattle.dns_updates.specs.Keys.{bytes_cmp}

-- so many bytes as a number in base 256, with zeros in the place of those that are not there
abbrev pub front : ℕ → List ℕ → ℕ
front zero bytes = 0
front (suc n) [] = 0
front (suc n) (b ∷ bytes) = b * 256 ^ n + front n bytes

-- all are octets
abbrev pub AreOctets : List ℕ → Type 0
AreOctets bytes = (i : ℕ) → get_or bytes i 0 < 256

-- two numbers have the first 32 bytes
pub record HasFront (bytes : List ℕ) (front_number next_number : ℕ) : Type 0 where
  pub octets : AreOctets bytes
  pub first : front_number ≡ front 16 bytes
  pub second : next_number ≡ front 16 (drop 16 bytes)

-- ---- the order is total

pub bytes_cmp-total : IsTotalOrder bytes_cmp
bytes_cmp-total = lists_total nat_cmp_total

pub bytes_cmp-equal : (x y : List ℕ) → bytes_eq x y ≡ is_eq (bytes_cmp x y)
bytes_cmp-equal x y = sym (is_eq-slice_cmp x y)

pub bytes_cmp-partial : IsPartialOrder bytes_eq (λ x y. Some (bytes_cmp x y))
bytes_cmp-partial = po bytes_cmp-total bytes_cmp-equal
