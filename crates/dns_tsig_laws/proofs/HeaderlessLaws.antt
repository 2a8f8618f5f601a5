-- What is decoded where no name can lead into the header is decoded with any header, and with any bytes after it.
use Rattle.std.proofs.Common.{◌≡◌, ◌<◌, ◌≤◌, ℕ, zero, suc, List, [], ◌∷◌, ◌++◌, length, take, drop, Ok, refl, sym, ap, ◌∙◌, arith, length-append}
use Rattle.std.specs.Prelude.{replicate}
use Rattle.dns_wire.specs.Element.{Element, Closing, Label, Pointer, element}
use Rattle.dns_wire.specs.Encodable.{BytesAt, Piece, Plain, Domain, Whole, PiecesAt}
use Rattle.dns_wire.specs.Reading.{Reads, at_closing, at_label, at_pointer}
use Rattle.dns_wire.specs.declared.name_encoding.NameEncoding.TheVariants.{Uncompressed}

-- no element is among bytes of 64
element_kept : (count : ℕ) (header body : List ℕ) (place : ℕ) (x : Element) → length header ≡ count → element (drop place (replicate count 64 ++ body)) ≡ Ok x → element (drop place (header ++ body)) ≡ Ok x
element_kept zero [] body place x len e = e
element_kept zero (byte ∷ header) body place x len e = absurd (omega arith)
element_kept (suc count) [] body place x len e = absurd (omega arith)
element_kept (suc count) (byte ∷ header) body zero x len e = absurd (cc)
element_kept (suc count) (byte ∷ header) body (suc place) x len e = element_kept count header body place x (omega arith) e

-- the bytes after the header
rest_kept : (count : ℕ) (header body : List ℕ) (place : ℕ) → length header ≡ count → count ≤ place → drop place (replicate count 64 ++ body) ≡ drop place (header ++ body)
rest_kept zero [] body place len h = refl
rest_kept zero (byte ∷ header) body place len h = absurd (omega arith)
rest_kept (suc count) [] body place len h = absurd (omega arith)
rest_kept (suc count) (byte ∷ header) body zero len h = absurd (omega arith)
rest_kept (suc count) (byte ∷ header) body (suc place) len h = rest_kept count header body place (omega arith) (omega arith)

-- a name takes one byte at least
pub name_ends : {buffer : List ℕ} {place segment left end : ℕ} {labels : List (List ℕ)} → Reads buffer place segment left labels end → place < end
name_ends (at_closing e) = omega arith
name_ends (at_label e room r) = omega (arith, name_ends r)
name_ends (at_pointer e back r) = omega arith

module _ (header body : List ℕ) (len : length header ≡ 12) where
  abbrev blank : List ℕ
  blank = replicate 12 64 ++ body

  name_kept : {place segment left end : ℕ} {labels : List (List ℕ)} → Reads blank place segment left labels end → Reads (header ++ body) place segment left labels end
  name_kept {place} (at_closing e) = at_closing (element_kept 12 header body place Closing len e)
  name_kept {place} (at_label {label = label} e room r) = at_label (element_kept 12 header body place (Label label) len e) room (name_kept r)
  name_kept {place} (at_pointer {target = target} e back r) = at_pointer (element_kept 12 header body place (Pointer target) len e) back (name_kept r)

  bytes_kept : (place : ℕ) (bytes : List ℕ) (end : ℕ) → 12 ≤ place → BytesAt blank place bytes end → BytesAt (header ++ body) place bytes end
  bytes_kept place bytes end h b = record {
    ends = b.ends;
    within = omega (arith, b.within, length-append header body, len);
    there = ap (take (length bytes)) (sym (rest_kept 12 header body place len h)) ∙ b.there;
  }

  pub pieces_kept : (place : ℕ) (pieces : List Piece) (end : ℕ) → 12 ≤ place → PiecesAt Uncompressed blank place pieces end → PiecesAt Uncompressed (header ++ body) place pieces end
  pieces_kept place [] end h p = p
  pieces_kept place (Plain bytes ∷ pieces) end h p = (p.0, bytes_kept place bytes p.0 h p.1, pieces_kept p.0 pieces end (omega (arith, h, p.1.ends)) p.2)
  pieces_kept place (Domain labels ∷ pieces) end h p = (p.0, name_kept p.1, pieces_kept p.0 pieces end (omega (arith, h, name_ends p.1)) p.2)
  pieces_kept place (Whole labels ∷ pieces) end h p = (p.0, name_kept p.1, pieces_kept p.0 pieces end (omega (arith, h, name_ends p.1)) p.2)

-- pieces end after their place
pub pieces_end : (buffer : List ℕ) (place : ℕ) (pieces : List Piece) (end : ℕ) → PiecesAt Uncompressed buffer place pieces end → place ≤ end
pieces_end buffer place [] end p = omega (arith, p)
pieces_end buffer place (Plain bytes ∷ pieces) end p = omega (arith, p.1.ends, pieces_end buffer p.0 pieces end p.2)
pieces_end buffer place (Domain labels ∷ pieces) end p = omega (arith, name_ends p.1, pieces_end buffer p.0 pieces end p.2)
pieces_end buffer place (Whole labels ∷ pieces) end p = omega (arith, name_ends p.1, pieces_end buffer p.0 pieces end p.2)
