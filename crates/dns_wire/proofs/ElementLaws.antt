-- The element in front of given bytes, and in front of more of them.
use Rattle.std.proofs.Common.{◌≡◌, ℕ, ◌+◌, ◌*◌, ◌-◌, ◌<◌, ◌≤◌, Bool, true, false, cond, eqb, ltb, List, [], ◌∷◌, ◌++◌, length, take, drop, Ok, Err, refl, sym, ap, ◌∙◌, arith, length-append, length-take, inl, inr}
use Rattle.std.proofs.lemmas.Bool.{ltb-true, ltb-false, le-ltb, eqb-false, cases_lt}
use Rattle.std.proofs.lemmas.List.{take_at, take-append-le, drop_all, drop-append-le}
use Rattle.dns_wire.specs.declared.error.DecodeError.TheVariants.{InsufficientBytes, UnrecognizedLabelCode}
use Rattle.dns_wire.specs.Element.{Element, Closing, Label, Pointer, element, element_at, label_element, pointer_element}
use Rattle.dns_wire.specs.Name.{IsLabel}

-- ---- which element it is

-- a length and as many bytes are a label
pub element-label : (label rest : List ℕ) → IsLabel label → element (length label ∷ (label ++ rest)) ≡ Ok (Label label)
element-label label rest is =
    let not_zero : eqb (length label) 0 ≡ false = let some = is.some in grind arith in
    let small : ltb (length label) 64 ≡ true = let most = is.most in grind arith in
    let enough : ltb (length (label ++ rest)) (length label) ≡ false = le-ltb _ _ (omega (arith, length-append label rest)) in
    rw (not_zero, small, enough, take_at label rest (length label) refl) refl

-- two bytes, of which the high one has its two high bits set, are a pointer
pub element-pointer : (code low : ℕ) (rest : List ℕ) → 192 ≤ code → element (code ∷ (low ∷ rest)) ≡ Ok (Pointer (256 * (code - 192) + low))
element-pointer code low rest high =
    let not_zero : eqb code 0 ≡ false = grind arith in
    let no_label : ltb code 64 ≡ false = grind arith in
    let not_between : ltb code 192 ≡ false = grind arith in
    rw (not_zero, no_label, not_between) refl

label_element-is_label : (n : ℕ) (bytes label : List ℕ) → 0 < n → n < 64 → label_element n bytes ≡ Ok (Label label) → IsLabel label
label_element-is_label n bytes label some most e = at (ltb (length bytes) n) refl e
  where
    at : (b : Bool) → ltb (length bytes) n ≡ b → cond b (Err InsufficientBytes) (Ok (Label (take n bytes))) ≡ Ok (Label label) → IsLabel label
    at true short e = absurd (cc)
    at false long e =
        let enough : n ≤ length bytes = ltb-false _ _ long in
        let is : take n bytes ≡ label = cc in
        let len : length label ≡ n = sym (ap (λ (l : List ℕ). length l) is) ∙ omega (arith, length-take n bytes) in
        record { some = omega arith; most = omega arith }

no_label : (high : ℕ) (bytes label : List ℕ) → pointer_element high bytes ≡ Ok (Label label) → ⊥
no_label high [] label e = cc
no_label high (low ∷ bytes) label e = cc

-- a label that stands there has 1 to 63 bytes
pub element-is_label : (bytes label : List ℕ) → element bytes ≡ Ok (Label label) → IsLabel label
element-is_label [] label e = absurd (cc)
element-is_label (code ∷ bytes) label e = at (eqb code 0) (ltb code 64) (ltb code 192) refl refl e
  where
    at : (zero small between : Bool) → eqb code 0 ≡ zero → ltb code 64 ≡ small
        → cond zero (Ok Closing) (cond small (label_element code bytes) (cond between (Err UnrecognizedLabelCode) (pointer_element (code - 192) bytes))) ≡ Ok (Label label) → IsLabel label
    at true small between p q e = absurd (cc)
    at false true between p q e = label_element-is_label code bytes label (omega (arith, eqb-false _ _ p)) (ltb-true _ _ q) e
    at false false true p q e = absurd (cc)
    at false false false p q e = absurd (no_label (code - 192) bytes label e)

-- ---- bytes that follow change nothing

label_element-append : (n : ℕ) (bytes more : List ℕ) (x : Element) → label_element n bytes ≡ Ok x → label_element n (bytes ++ more) ≡ Ok x
label_element-append n bytes more x e = at (ltb (length bytes) n) refl e
  where
    at : (b : Bool) → ltb (length bytes) n ≡ b → cond b (Err InsufficientBytes) (Ok (Label (take n bytes))) ≡ Ok x → label_element n (bytes ++ more) ≡ Ok x
    at true short e = absurd (cc)
    at false long e =
        let enough : n ≤ length bytes = ltb-false _ _ long in
        let still : ltb (length (bytes ++ more)) n ≡ false = le-ltb _ _ (omega (arith, length-append bytes more)) in
        rw (still, take-append-le n bytes more enough) e

pointer_element-append : (high : ℕ) (bytes more : List ℕ) (x : Element) → pointer_element high bytes ≡ Ok x → pointer_element high (bytes ++ more) ≡ Ok x
pointer_element-append high [] more x e = absurd (cc)
pointer_element-append high (low ∷ bytes) more x e = e

element-append : (bytes more : List ℕ) (x : Element) → element bytes ≡ Ok x → element (bytes ++ more) ≡ Ok x
element-append [] more x e = absurd (cc)
element-append (code ∷ bytes) more x e = at (eqb code 0) (ltb code 64) (ltb code 192) e
  where
    at : (zero small between : Bool) → cond zero (Ok Closing) (cond small (label_element code bytes) (cond between (Err UnrecognizedLabelCode) (pointer_element (code - 192) bytes))) ≡ Ok x
        → cond zero (Ok Closing) (cond small (label_element code (bytes ++ more)) (cond between (Err UnrecognizedLabelCode) (pointer_element (code - 192) (bytes ++ more)))) ≡ Ok x
    at true small between e = e
    at false true between e = label_element-append code bytes more x e
    at false false true e = absurd (cc)
    at false false false e = pointer_element-append (code - 192) bytes more x e

pub element_at-append : (buffer more : List ℕ) (place : ℕ) (x : Element) → element_at buffer place ≡ Ok x → element_at (buffer ++ more) place ≡ Ok x
element_at-append buffer more place x e = elim (cases_lt place (length buffer)) [
  | inl inside ↦ rw (drop-append-le place buffer more (omega arith)) (element-append (drop place buffer) more x e)
  | inr past ↦ absurd (let none = ap element (sym (drop_all place buffer past)) ∙ e in cc)
]
