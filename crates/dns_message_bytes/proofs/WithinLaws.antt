-- What is read from bytes ends within them.
use Rattle.std.proofs.Common.{◌≡◌, ℕ, ◌-◌, ◌<◌, ◌≤◌, Bool, true, false, cond, eqb, ltb, List, [], ◌∷◌, length, take, drop, Ok, Err, subst, arith, length-drop}
use Rattle.dns_wire.specs.declared.error.DecodeError.TheVariants.{InsufficientBytes, UnrecognizedLabelCode}
use Rattle.dns_wire.specs.declared.name_encoding.NameEncoding.TheVariants.{Uncompressed}
use Rattle.dns_wire.specs.Element.{Element, Closing, Label, Pointer, element, label_element, pointer_element}
use Rattle.dns_wire.specs.Encodable.{Piece, Plain, Domain, Whole, PieceAt, PiecesAt}
use Rattle.dns_wire.specs.Reading.{Reads, at_closing, at_label, at_pointer}

some_there : (bytes : List ℕ) (x : Element) → element bytes ≡ Ok x → 0 < length bytes
some_there [] x e = absurd (cc)
some_there (code ∷ bytes) x e = omega arith

no_pointer : (n : ℕ) (bytes : List ℕ) (target : ℕ) → label_element n bytes ≡ Ok (Pointer target) → ⊥
no_pointer n bytes target e = at (ltb (length bytes) n) e
  where
    at : (b : Bool) → cond b (Err InsufficientBytes) (Ok (Label (take n bytes))) ≡ Ok (Pointer target) → ⊥
    at true e = cc
    at false e = cc

two_there : (bytes : List ℕ) (target : ℕ) → element bytes ≡ Ok (Pointer target) → 2 ≤ length bytes
two_there [] target e = absurd (cc)
two_there (code ∷ (low ∷ bytes)) target e = omega arith
two_there (code ∷ []) target e = at (eqb code 0) (ltb code 64) (ltb code 192) e
  where
    at : (zero small between : Bool)
        → cond zero (Ok Closing) (cond small (label_element code []) (cond between (Err UnrecognizedLabelCode) (pointer_element (code - 192) []))) ≡ Ok (Pointer target) → 2 ≤ length (code ∷ [])
    at true small between e = absurd (cc)
    at false true between e = absurd (no_pointer code [] target e)
    at false false true e = absurd (cc)
    at false false false e = absurd (cc)

pub reads_within : {buffer : List ℕ} {place segment left end : ℕ} {labels : List (List ℕ)} → Reads buffer place segment left labels end → end ≤ length buffer
reads_within {buffer} (at_closing {place} e) = omega (arith, some_there (drop place buffer) Closing e, length-drop place buffer)
reads_within (at_label e fits r) = reads_within r
reads_within {buffer} (at_pointer {place} {target = target} e back r) = omega (arith, two_there (drop place buffer) target e, length-drop place buffer)

piece_within : (buffer : List ℕ) (place : ℕ) (p : Piece) (end : ℕ) → PieceAt Uncompressed buffer place p end → end ≤ length buffer
piece_within buffer place (Plain bytes) end there = there.within
piece_within buffer place (Domain labels) end there = reads_within there
piece_within buffer place (Whole labels) end there = reads_within there

pub pieces_within : (buffer : List ℕ) (place : ℕ) (ps : List Piece) (end : ℕ) → place ≤ length buffer → PiecesAt Uncompressed buffer place ps end → end ≤ length buffer
pieces_within buffer place [] end within there = subst (λ (n : ℕ). n ≤ length buffer) there within
pieces_within buffer place (p ∷ ps) end within there = pieces_within buffer there.0 ps end (piece_within buffer place p there.0 there.1) there.2
