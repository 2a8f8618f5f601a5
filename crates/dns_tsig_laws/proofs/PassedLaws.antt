-- A name that the decoder reads is passed by the skipper, up to the same place.
use Rattle.std.proofs.Common.{◌≡◌, ◌<◌, ◌≤◌, ◌&&◌, ◌+◌, ◌-◌, Bool, true, false, cond, eqb, ltb, ℕ, suc, List, [], ◌∷◌, length, take, drop, Some, None, Ok, Err, refl, sym, subst, ap, ◌∙◌, arith, length-take}
use Rattle.std.proofs.lemmas.Bool.{eqb-true, eqb-false, ltb-true, ltb-false}
use Rattle.std.proofs.lemmas.Bool.Decides.{nat_tests}
use Rattle.std.proofs.lemmas.List.{drop-drop}
use Rattle.std.specs.Prelude.{nat_lt, ◌==◌}
use Rattle.dns_wire.specs.declared.error.DecodeError.TheVariants.{InsufficientBytes, UnrecognizedLabelCode}
use Rattle.dns_wire.specs.Element.{Element, Closing, Label, Pointer, element, label_element, pointer_element}
use Rattle.dns_wire.specs.Reading.{Reads, at_closing, at_label, at_pointer}
use Rattle.dns_tsig.proofs.SkipLaws.{label_skipped}
use Rattle.dns_tsig.specs.Skip.{after_end, after_labels, after_name}

-- what is after a name that begins with an element
abbrev Passes : Element → List ℕ → Type 0
Passes Closing bytes = after_name bytes ≡ Some (drop 1 bytes)
Passes (Label label) bytes = after_name bytes ≡ after_name (drop (length label + 1) bytes)
Passes (Pointer target) bytes = after_name bytes ≡ Some (drop 2 bytes)

label_passed : (code : ℕ) (bytes : List ℕ) (x : Element) → 0 < code → code < 64 → label_element code bytes ≡ Ok x → Passes x (code ∷ bytes)
label_passed code bytes x some most e = by (ltb (length bytes) code) refl x e
  where
    by : (is_short : Bool) → ltb (length bytes) code ≡ is_short → (x : Element) → cond is_short (Err InsufficientBytes) (Ok (Label (take code bytes))) ≡ Ok x → Passes x (code ∷ bytes)
    by true is x e = absurd (cc)
    by false is Closing e = absurd (cc)
    by false is (Pointer target) e = absurd (cc)
    by false is (Label label) e =
        let within : code ≤ length bytes = ltb-false (length bytes) code is in
        let label_is : take code bytes ≡ label = cc in
        let len : length label + 1 ≡ suc code = omega (arith, ap length label_is, length-take code bytes) in
        let test : (nat_lt 0 code && nat_lt code 64) ≡ true = grind (arith, nat_tests, some, most) in
        ap (λ (b : Bool). after_end (cond b (after_labels code bytes) (code ∷ bytes))) test
        ∙ ap after_end (label_skipped code bytes)
        ∙ ap (λ (n : ℕ). after_name (drop n (code ∷ bytes))) (sym len)

pointer_passed : (code : ℕ) (bytes : List ℕ) (x : Element) → (code == 0) ≡ false → nat_lt code 64 ≡ false → nat_lt code 192 ≡ false → pointer_element (code - 192) bytes ≡ Ok x → Passes x (code ∷ bytes)
pointer_passed code [] x zero small middle e = absurd (cc)
pointer_passed code (low ∷ bytes) Closing zero small middle e = absurd (cc)
pointer_passed code (low ∷ bytes) (Label label) zero small middle e = absurd (cc)
pointer_passed code (low ∷ bytes) (Pointer target) zero small middle e =
    let test : (nat_lt 0 code && nat_lt code 64) ≡ false = grind (arith, nat_tests, small) in
    ap (λ (b : Bool). after_end (cond b (after_labels code (low ∷ bytes)) (code ∷ low ∷ bytes))) test
    ∙ ap (λ (b : Bool). cond b (Some (low ∷ bytes)) (cond (nat_lt code 192) None (Some bytes))) zero
    ∙ ap (λ (b : Bool). cond b None (Some bytes)) middle

passed : (bytes : List ℕ) (x : Element) → element bytes ≡ Ok x → Passes x bytes
passed [] x e = absurd (cc)
passed (code ∷ bytes) x e = by (eqb code 0) (ltb code 64) (ltb code 192) refl refl refl x e
  where
    by : (zero small middle : Bool) → eqb code 0 ≡ zero → ltb code 64 ≡ small → ltb code 192 ≡ middle → (x : Element)
        → cond zero (Ok Closing) (cond small (label_element code bytes) (cond middle (Err UnrecognizedLabelCode) (pointer_element (code - 192) bytes))) ≡ Ok x → Passes x (code ∷ bytes)
    by true small middle z s m Closing e = subst (λ (c : ℕ). after_name (c ∷ bytes) ≡ Some bytes) (sym (eqb-true code 0 z)) refl
    by true small middle z s m (Label label) e = absurd (cc)
    by true small middle z s m (Pointer target) e = absurd (cc)
    by false true middle z s m x e = label_passed code bytes x (omega (arith, eqb-false code 0 z)) (ltb-true code 64 s) e
    by false false true z s m x e = absurd (cc)
    by false false false z s m x e = pointer_passed code bytes x z s m e

pub name_passed : {buffer : List ℕ} {place segment left end : ℕ} {labels : List (List ℕ)} → Reads buffer place segment left labels end → after_name (drop place buffer) ≡ Some (drop end buffer)
name_passed {buffer} {place} (at_closing e) = passed (drop place buffer) Closing e ∙ ap (λ (l : List ℕ). Some l) (drop-drop 1 place buffer)
name_passed {buffer} {place} (at_label {label = label} e room r) = passed (drop place buffer) (Label label) e ∙ ap after_name (drop-drop (length label + 1) place buffer) ∙ name_passed r
name_passed {buffer} {place} (at_pointer {target = target} e back r) = passed (drop place buffer) (Pointer target) e ∙ ap (λ (l : List ℕ). Some l) (drop-drop 2 place buffer)
