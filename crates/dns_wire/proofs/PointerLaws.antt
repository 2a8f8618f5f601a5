-- Where a pointer is.
use Rattle.std.proofs.Common.{◌≡◌, ℕ, ◌+◌, ◌-◌, ◌<◌, ◌≤◌, Bool, true, false, cond, eqb, ltb, List, [], ◌∷◌, length, take, drop, get_or, Ok, Err, refl, ap, arith}
use Rattle.std.proofs.lemmas.Bool.{ltb-false}
use Rattle.std.proofs.lemmas.List.{drop_more, length-drop}
use Rattle.dns_wire.specs.declared.error.DecodeError.TheVariants.{InsufficientBytes, UnrecognizedLabelCode}
use Rattle.dns_wire.specs.Element.{Closing, Label, Pointer, element, element_at, label_element, pointer_element}

label_element-no_pointer : (n : ℕ) (bytes : List ℕ) (target : ℕ) → label_element n bytes ≡ Ok (Pointer target) → ⊥
label_element-no_pointer n bytes target e = at (ltb (length bytes) n) e
  where
    at : (b : Bool) → cond b (Err InsufficientBytes) (Ok (Label (take n bytes))) ≡ Ok (Pointer target) → ⊥
    at true e = cc
    at false e = cc

pointer_element-some : (high : ℕ) (bytes : List ℕ) (target : ℕ) → pointer_element high bytes ≡ Ok (Pointer target) → 0 < length bytes
pointer_element-some high [] target e = absurd (cc)
pointer_element-some high (low ∷ bytes) target e = omega arith

-- a pointer begins with a byte of at least 192, and has another byte
element-is_pointer : (code : ℕ) (bytes : List ℕ) (target : ℕ) → element (code ∷ bytes) ≡ Ok (Pointer target) → (192 ≤ code) × (0 < length bytes)
element-is_pointer code bytes target e = at (eqb code 0) (ltb code 64) (ltb code 192) refl e
  where
    at : (zero small between : Bool) → ltb code 192 ≡ between
        → cond zero (Ok Closing) (cond small (label_element code bytes) (cond between (Err UnrecognizedLabelCode) (pointer_element (code - 192) bytes))) ≡ Ok (Pointer target) → (192 ≤ code) × (0 < length bytes)
    at true small between p e = absurd (cc)
    at false true between p e = absurd (label_element-no_pointer code bytes target e)
    at false false true p e = absurd (cc)
    at false false false p e = (ltb-false _ _ p, pointer_element-some (code - 192) bytes target e)

-- so does a pointer at a place of a buffer
pub pointer_at-is : (buffer : List ℕ) (place target : ℕ) → element_at buffer place ≡ Ok (Pointer target) → (place + 2 ≤ length buffer) × (192 ≤ get_or buffer place 0)
pointer_at-is buffer place target e = at (drop place buffer) refl e
  where
    at : (l : List ℕ) → drop place buffer ≡ l → element l ≡ Ok (Pointer target) → (place + 2 ≤ length buffer) × (192 ≤ get_or buffer place 0)
    at [] is e = absurd (cc)
    at (code ∷ bytes) is e =
        let parts = element-is_pointer code bytes target e in
        let inside : place + 2 ≤ length buffer = omega (arith, parts.1, length-drop place buffer, ap (λ (l : List ℕ). length l) is) in
        let step = drop_more buffer place 0 (omega (arith, inside)) in
        let first : get_or buffer place 0 ≡ code = cc in
        (inside, omega (arith, parts.0, first))
