-- Bytes at a place decode to one number, and are not refused.
use Rattle.std.proofs.Common.{◌≡◌, ℕ, ◌<◌, ◌^◌, List, [], ◌∷◌, length, take, drop, refl, sym, ap, ◌∙◌, arith, length-drop}
use Rattle.std.proofs.lemmas.Int.{to_z-of_z}
use Rattle.std.proofs.lemmas.Nat.{from_be_bytes-to_be_bytes_2, from_be_bytes-to_be_bytes_4}
use Rattle.std.specs.Int.{w16, w32, to_be_bytes, from_be_bytes, cast_signed, cast_unsigned}
use Rattle.std.specs.Int.RustNames.{FitsSigned}
use Rattle.dns_wire.specs.Encodable.{BytesAt}
use lib.IntN.{ℤ, pos, negsuc}

-- ---- numbers of a width, by their bytes

pub same_number_2 : (a b : ℕ) → a < 2 ^ 16 → b < 2 ^ 16 → to_be_bytes w16 a ≡ to_be_bytes w16 b → a ≡ b
same_number_2 a b fits fits' e = sym (from_be_bytes-to_be_bytes_2 a fits) ∙ ap (from_be_bytes w16) e ∙ from_be_bytes-to_be_bytes_2 b fits'

pub same_number_4 : (a b : ℕ) → a < 2 ^ 32 → b < 2 ^ 32 → to_be_bytes w32 a ≡ to_be_bytes w32 b → a ≡ b
same_number_4 a b fits fits' e = sym (from_be_bytes-to_be_bytes_4 a fits) ∙ ap (from_be_bytes w32) e ∙ from_be_bytes-to_be_bytes_4 b fits'

-- ---- bytes at a place

-- as many bytes at one place are the same, up to the same end
pub same_bytes : (buffer : List ℕ) (place : ℕ) (a b : List ℕ) (end end' : ℕ) → length a ≡ length b
    → BytesAt buffer place a end → BytesAt buffer place b end' → (a ≡ b) × (end ≡ end')
same_bytes buffer place a b end end' len s t =
    (sym s.there ∙ ap (λ (n : ℕ). take n (drop place buffer)) len ∙ t.there, omega (arith, s.ends, t.ends))

pub one_byte : (buffer : List ℕ) (place a b end end' : ℕ) → BytesAt buffer place (a ∷ []) end
    → BytesAt buffer place (b ∷ []) end' → (a ≡ b) × (end ≡ end')
one_byte buffer place a b end end' s t =
    let same = same_bytes buffer place (a ∷ []) (b ∷ []) end end' refl s t in
    (cc (same.0), same.1)

pub one_of_two : (buffer : List ℕ) (place a b end end' : ℕ) → BytesAt buffer place (to_be_bytes w16 a) end × (a < 2 ^ 16)
    → BytesAt buffer place (to_be_bytes w16 b) end' × (b < 2 ^ 16) → (a ≡ b) × (end ≡ end')
one_of_two buffer place a b end end' s t =
    let same = same_bytes buffer place (to_be_bytes w16 a) (to_be_bytes w16 b) end end' refl s.0 t.0 in
    (same_number_2 a b s.1 t.1 same.0, same.1)

pub one_of_four : (buffer : List ℕ) (place a b end end' : ℕ) → BytesAt buffer place (to_be_bytes w32 a) end × (a < 2 ^ 32)
    → BytesAt buffer place (to_be_bytes w32 b) end' × (b < 2 ^ 32) → (a ≡ b) × (end ≡ end')
one_of_four buffer place a b end end' s t =
    let same = same_bytes buffer place (to_be_bytes w32 a) (to_be_bytes w32 b) end end' refl s.0 t.0 in
    (same_number_4 a b s.1 t.1 same.0, same.1)

bits_fit : (z : ℤ) → FitsSigned w32 z → cast_unsigned w32 z < 2 ^ 32
bits_fit (pos n) fits = omega (arith, fits.sfits)
bits_fit (negsuc n) fits = omega arith

pub one_signed : (buffer : List ℕ) (place : ℕ) (a b : ℤ) (end end' : ℕ)
    → BytesAt buffer place (to_be_bytes w32 (cast_unsigned w32 a)) end × FitsSigned w32 a
    → BytesAt buffer place (to_be_bytes w32 (cast_unsigned w32 b)) end' × FitsSigned w32 b → (a ≡ b) × (end ≡ end')
one_signed buffer place a b end end' s t =
    let same = one_of_four buffer place (cast_unsigned w32 a) (cast_unsigned w32 b) end end' (s.0, bits_fit a s.1) (t.0, bits_fit b t.1) in
    (sym (to_z-of_z w32 a s.1) ∙ ap (cast_signed w32) same.0 ∙ to_z-of_z w32 b t.1, same.1)

-- as many bytes are unread where bytes are found
pub not_short : (buffer : List ℕ) (place : ℕ) (bytes : List ℕ) (end : ℕ) → BytesAt buffer place bytes end
    → length (drop place buffer) < length bytes → ⊥
not_short buffer place bytes end s short = omega (arith, s.ends, s.within, length-drop place buffer)
