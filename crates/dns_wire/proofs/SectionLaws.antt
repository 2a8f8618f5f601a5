-- Sections of items: how far they reach, and what is decoded from them.
use Rattle.std.proofs.Common.{◌≡◌, ℕ, ◌+◌, ◌<◌, ◌≤◌, Bool, true, false, cond, ltb, List, [], ◌∷◌, ◌++◌, length, Option, Some, None, max, refl, sym, ap, subst, ◌∙◌, append_assoc, arith, length-append}
use Rattle.std.specs.List.{AllByRecursion}
use Rattle.std.specs.Option.{option_map_or}
use Rattle.std.proofs.lemmas.Bool.{ltb-false, le-ltb}
use Rattle.std.proofs.lemmas.List.{append-nil}
use Rattle.dns_wire.specs.declared.name_encoding.NameEncoding.TheVariants.{Compressed, Uncompressed}
use Rattle.dns_wire.specs.Decodable.{Follow}
use Rattle.dns_wire.specs.Encoder.{EncoderState, IsAtEnd, place_of}
use Rattle.dns_wire.specs.Name.{name_len}
use Rattle.dns_wire.specs.Writing.{labels_form, whole_form, spelling, pointer_form, compressed_form, ArePointerTargets}
use Rattle.dns_wire.specs.Encodable.{Piece, Plain, Domain, Whole, Position, position_of, is_compressed, name_form, piece_next, piece_reach, form, after, reach, append_pieces, PiecesAt, AreWritable, AllBehind}
use Rattle.dns_wire.specs.Items.{fitting_prefix, all_pieces, attempts_after, fitting_pieces, append_fitting}
use Rattle.dns_wire.specs.internal.Sections.{fitting_form, position_behind}
use Rattle.dns_wire.proofs.NameLaws.{name_len-spelling, length-labels_form, length-whole_form}
use Rattle.dns_wire.proofs.PieceLaws.{after-place, after-encoding, form-append, after-append, reach-append, position_of-append_pieces, append_pieces-end, pieces_decode}
use Rattle.dns_wire.proofs.ItemLaws.{append_pieces-behind}

-- ---- how far pieces reach

next-reach : (s : Position) (p : Piece) → (piece_next s p).place ≤ piece_reach s p
next-reach s (Plain bytes) = omega arith
next-reach s (Domain labels) = omega arith
next-reach s (Whole labels) = omega arith

-- the position behind pieces lies within their reach
pub after-reach : (s : Position) (ps : List Piece) → (after s ps).place ≤ max s.place (reach s ps)
after-reach s [] = omega arith
after-reach s (p ∷ ps) = omega (arith, after-reach (piece_next s p) ps, next-reach s p)

-- the maximum length of a piece: names are written without compression
abbrev pub piece_max_len : Piece → ℕ
piece_max_len (Plain bytes) = length bytes
piece_max_len (Domain labels) = name_len labels
piece_max_len (Whole labels) = name_len labels

abbrev pub pieces_max_len : List Piece → ℕ
pieces_max_len [] = 0
pieces_max_len (p ∷ ps) = piece_max_len p + pieces_max_len ps

name_len-some : (labels : List (List ℕ)) → 1 ≤ name_len labels
name_len-some [] = omega arith
name_len-some (label ∷ labels) = omega arith

-- an encoded name is no longer than its uncompressed form
pub name_form-most : (s : Position) (labels : List (List ℕ)) → length (name_form s labels) ≤ name_len labels
name_form-most s labels = at (is_compressed s)
  where
    pointer : (found : Option ℕ) (label : List ℕ) (rest : List ℕ) (n : ℕ) → 1 ≤ n → length rest ≤ n → length (option_map_or pointer_form found (length label ∷ (label ++ rest))) ≤ length label + 1 + n
    pointer (Some target) label rest n some le = omega arith
    pointer None label rest n some le = omega (arith, length-append label rest)

    compressed : (labels : List (List ℕ)) → length (compressed_form s.suffixes labels) ≤ name_len labels
    compressed [] = omega arith
    compressed (l ∷ ls) = pointer (place_of s.suffixes (labels_form (l ∷ ls))) l (compressed_form s.suffixes ls) (name_len ls) (name_len-some ls) (compressed ls)

    at : (b : Bool) → length (cond b (compressed_form s.suffixes labels) (whole_form (spelling s.encoding labels))) ≤ name_len labels
    at true = compressed labels
    at false = omega (arith, length-whole_form (spelling s.encoding labels), name_len-spelling s.encoding labels)

piece_reach-most : (s : Position) (p : Piece) → piece_reach s p ≤ s.place + piece_max_len p
piece_reach-most s (Plain bytes) = omega arith
piece_reach-most s (Domain labels) = omega (arith, name_form-most s labels, length-labels_form labels)
piece_reach-most s (Whole labels) = omega (arith, length-whole_form labels)

-- pieces reach no further than with every name uncompressed
pub reach-most : (s : Position) (ps : List Piece) → reach s ps ≤ s.place + pieces_max_len ps
reach-most s [] = omega arith
reach-most s (p ∷ ps) = omega (arith, reach-most (piece_next s p) ps, next-reach s p, piece_reach-most s p)

-- ---- decoding pieces

pub pieces_at-uncompressed : (buffer : List ℕ) (place end : ℕ) (ps : List Piece) → PiecesAt Compressed buffer place ps end → PiecesAt Uncompressed buffer place ps end
pieces_at-uncompressed buffer place end [] h = h
pieces_at-uncompressed buffer place end (Plain bytes ∷ ps) h = (h.0, h.1, pieces_at-uncompressed buffer h.0 end ps h.2)
pieces_at-uncompressed buffer place end (Domain labels ∷ ps) h = (h.0, h.1, pieces_at-uncompressed buffer h.0 end ps h.2)
pieces_at-uncompressed buffer place end (Whole labels ∷ ps) h = (h.0, h.1, pieces_at-uncompressed buffer h.0 end ps h.2)

-- what was written so far, with names compressed: the next byte extends it, and pointers can refer to every suffix
pub record Stage (bytes : List ℕ) (s : Position) : Type 0 where
  pub encoding : s.encoding ≡ Compressed
  pub place : s.place ≡ length bytes
  pub targets : ArePointerTargets bytes s.suffixes

-- pieces are decoded where they were written, and lead to a stage again
pub stage_again : (bytes : List ℕ) (s : Position) (ps : List Piece) → Stage bytes s → AreWritable ps
    → PiecesAt Uncompressed (bytes ++ form s ps) s.place ps (after s ps).place × Stage (bytes ++ form s ps) (after s ps)
stage_again bytes s ps stage are =
    let again = pieces_decode bytes s ps stage.place stage.targets are in (
      pieces_at-uncompressed (bytes ++ form s ps) s.place (after s ps).place ps (subst (λ e. PiecesAt e (bytes ++ form s ps) s.place ps (after s ps).place) stage.encoding again.0),
      record {
        encoding = after-encoding s ps ∙ stage.encoding;
        place = omega (arith, after-place s ps, length-append bytes (form s ps), stage.place);
        targets = again.1;
      },
    )

writable-split : (ps qs : List Piece) → AreWritable (ps ++ qs) → AreWritable ps × AreWritable qs
writable-split [] qs are = (tt, are)
writable-split (p ∷ ps) qs are = let more = writable-split ps qs are.1 in ((are.0, more.0), more.1)

-- what the next section begins with: the encoder has written these bytes, and is at this position
pub record BetweenSections (limit : ℕ) (w : EncoderState) (bytes : List ℕ) (s : Position) : Type 0 where
  pub at_end : IsAtEnd w
  pub behind : AllBehind (position_of w)
  pub limit_is : w.limit ≡ limit
  pub bytes_are : w.bytes ≡ bytes
  pub position_is : position_of w ≡ s

-- an item is decoded again where it was written: P is what the item must fulfil, R is its grammar
pub record Rereads {X : Type 0} (pieces : X → Position → List Piece) (P : X → Type 0) (R : List ℕ → ℕ → X → ℕ → Type 0) : Type 0 where
  pub stays : (bytes more : List ℕ) (place : ℕ) (x : X) (end : ℕ) → R bytes place x end → R (bytes ++ more) place x end
  pub again : (bytes : List ℕ) (s : Position) (x : X) → Stage bytes s → AreWritable (pieces x s) → P x → (after s (pieces x s)).place < 65536
      → R (bytes ++ form s (pieces x s)) s.place x (after s (pieces x s)).place

follow-append : {X : Type 0} (R : List ℕ → ℕ → X → ℕ → Type 0) (stays : (bytes more : List ℕ) (place : ℕ) (x : X) (end : ℕ) → R bytes place x end → R (bytes ++ more) place x end)
    (bytes more : List ℕ) (place end : ℕ) (xs : List X) → Follow (R bytes) place xs end → Follow (R (bytes ++ more)) place xs end
follow-append R stays bytes more place end [] h = h
follow-append R stays bytes more place end (x ∷ xs) h = (h.0, stays bytes more place x h.0 h.1, follow-append R stays bytes more h.0 end xs h.2)

module _ {X : Type 0} (pieces : X → Position → List Piece) where
  -- ---- which items fit

  -- all items fit where they reach no further than the limit
  pub fitting_prefix-reach : (limit : ℕ) (s : Position) (xs : List X) → reach s (all_pieces pieces s xs) ≤ limit → fitting_prefix pieces limit s xs ≡ xs
  fitting_prefix-reach limit s [] fits = refl
  fitting_prefix-reach limit s (x ∷ xs) fits =
      let next : Position = after s (pieces x s) in
      let both = reach-append s (pieces x s) (all_pieces pieces next xs) in
      let no : ltb limit (reach s (pieces x s)) ≡ false = le-ltb _ _ (omega (arith, both, fits)) in
      ap (λ (b : Bool). cond b [] (x ∷ fitting_prefix pieces limit next xs)) no
      ∙ ap (λ (ys : List X). x ∷ ys) (fitting_prefix-reach limit next xs (omega (arith, both, fits)))

  -- the items that fit reach no further than the limit
  pub reach-fitting_prefix : (limit : ℕ) (s : Position) (xs : List X) → reach s (all_pieces pieces s (fitting_prefix pieces limit s xs)) ≤ limit
  reach-fitting_prefix limit s [] = omega arith
  reach-fitting_prefix limit s (x ∷ xs) = at (ltb limit (reach s (pieces x s))) refl (reach-fitting_prefix limit (after s (pieces x s)) xs)
    where
      at : (b : Bool) → ltb limit (reach s (pieces x s)) ≡ b → reach (after s (pieces x s)) (all_pieces pieces (after s (pieces x s)) (fitting_prefix pieces limit (after s (pieces x s)) xs)) ≤ limit
          → reach s (all_pieces pieces s (cond b [] (x ∷ fitting_prefix pieces limit (after s (pieces x s)) xs))) ≤ limit
      at true e more = omega arith
      at false e more = omega (arith, more, ltb-false _ _ e, reach-append s (pieces x s) (all_pieces pieces (after s (pieces x s)) (fitting_prefix pieces limit (after s (pieces x s)) xs)))

  -- so all items fit exactly where they reach no further than the limit
  pub fitting_prefix-whole : (limit : ℕ) (s : Position) (xs : List X) → fitting_prefix pieces limit s xs ≡ xs → reach s (all_pieces pieces s xs) ≤ limit
  fitting_prefix-whole limit s xs same = subst (λ (ys : List X). reach s (all_pieces pieces s ys) ≤ limit) same (reach-fitting_prefix limit s xs)

  -- what holds of each item holds of each that fits
  pub fitting_prefix-each : (P : X → Type 0) (limit : ℕ) (s : Position) (xs : List X) → AllByRecursion P xs → AllByRecursion P (fitting_prefix pieces limit s xs)
  fitting_prefix-each P limit s [] each = tt
  fitting_prefix-each P limit s (x ∷ xs) each = at (ltb limit (reach s (pieces x s))) (fitting_prefix-each P limit (after s (pieces x s)) xs each.1)
    where
      at : (b : Bool) → AllByRecursion P (fitting_prefix pieces limit (after s (pieces x s)) xs) → AllByRecursion P (cond b [] (x ∷ fitting_prefix pieces limit (after s (pieces x s)) xs))
      at true more = tt
      at false more = (each.0, more)

  -- ---- the position behind a section

  -- it lies within the limit
  pub position_behind-within : (limit : ℕ) (s : Position) (xs : List X) → s.place ≤ limit → (position_behind pieces limit s xs).place ≤ limit
  position_behind-within limit s xs within =
      let fit : List X = fitting_prefix pieces limit s xs in
      omega (arith, within, after-reach s (all_pieces pieces s fit), reach-fitting_prefix limit s xs)

  -- it goes on by the section's bytes
  pub position_behind-place : (limit : ℕ) (s : Position) (xs : List X) → (position_behind pieces limit s xs).place ≡ s.place + length (fitting_form pieces limit s xs)
  position_behind-place limit s xs = after-place s (all_pieces pieces s (fitting_prefix pieces limit s xs))

  attempts_after-whole : (limit : ℕ) (s : Position) (xs : List X) → reach s (all_pieces pieces s xs) ≤ limit → attempts_after pieces limit s xs ≡ (after s (all_pieces pieces s xs)).attempts
  attempts_after-whole limit s [] fits = refl
  attempts_after-whole limit s (x ∷ xs) fits =
      let next : Position = after s (pieces x s) in
      let both = reach-append s (pieces x s) (all_pieces pieces next xs) in
      let no : ltb limit (reach s (pieces x s)) ≡ false = le-ltb _ _ (omega (arith, both, fits)) in
      rw no (attempts_after-whole limit next xs (omega (arith, both, fits)) ∙ sym (ap (λ (t : Position). t.attempts) (after-append s (pieces x s) (all_pieces pieces next xs))))

  -- where all items fit it is that of all their pieces
  pub position_behind-whole : (limit : ℕ) (s : Position) (xs : List X) → reach s (all_pieces pieces s xs) ≤ limit → position_behind pieces limit s xs ≡ after s (all_pieces pieces s xs)
  position_behind-whole limit s xs fits =
      ap (λ (ys : List X). record (after s (all_pieces pieces s ys)) { attempts = attempts_after pieces limit s xs }) (fitting_prefix-reach limit s xs fits)
      ∙ ap (λ (n : ℕ). record (after s (all_pieces pieces s xs)) { attempts = n }) (attempts_after-whole limit s xs fits)

  -- and the section is written as all their pieces
  pub append_fitting-whole : (w : EncoderState) (xs : List X) → reach (position_of w) (all_pieces pieces (position_of w) xs) ≤ w.limit → append_fitting pieces w xs ≡ append_pieces w (all_pieces pieces (position_of w) xs)
  append_fitting-whole w xs fits =
      ap (λ (ys : List X). record (append_pieces w (all_pieces pieces (position_of w) ys)) { attempts = attempts_after pieces w.limit (position_of w) xs }) (fitting_prefix-reach w.limit (position_of w) xs fits)
      ∙ ap (λ (n : ℕ). record (append_pieces w (all_pieces pieces (position_of w) xs)) { attempts = n }) (attempts_after-whole w.limit (position_of w) xs fits)

  -- ---- how many items

  all_pieces-count : ((x : X) (s : Position) → 1 ≤ length (form s (pieces x s))) → (s : Position) (xs : List X) → s.place + length xs ≤ (after s (all_pieces pieces s xs)).place
  all_pieces-count some s [] = omega arith
  all_pieces-count some s (x ∷ xs) =
      let next : Position = after s (pieces x s) in
      omega (arith, some x s, all_pieces-count some next xs, after-place s (pieces x s), ap (λ (t : Position). t.place) (after-append s (pieces x s) (all_pieces pieces next xs)))

  -- where each item takes a byte at least, there are no more items than bytes
  pub fitting_prefix-count : ((x : X) (s : Position) → 1 ≤ length (form s (pieces x s))) → (limit : ℕ) (s : Position) (xs : List X) → s.place + length (fitting_prefix pieces limit s xs) ≤ (position_behind pieces limit s xs).place
  fitting_prefix-count some limit s xs = all_pieces-count some s (fitting_prefix pieces limit s xs)

  -- ---- one section after another

  pub next_section : (limit : ℕ) (w : EncoderState) (bytes : List ℕ) (s : Position) (xs : List X) → BetweenSections limit w bytes s
      → BetweenSections limit (append_fitting pieces w xs) (bytes ++ fitting_form pieces limit s xs) (position_behind pieces limit s xs)
  next_section limit w bytes s xs h =
      let ps : List Piece = fitting_pieces pieces w xs in
      record {
        at_end = append_pieces-end w ps h.at_end;
        behind = append_pieces-behind w ps h.behind;
        limit_is = h.limit_is;
        bytes_are = ap (λ (b : List ℕ). b ++ form (position_of w) ps) h.bytes_are
            ∙ ap (λ (n : ℕ). bytes ++ fitting_form pieces n (position_of w) xs) h.limit_is
            ∙ ap (λ (t : Position). bytes ++ fitting_form pieces limit t xs) h.position_is;
        position_is = ap (λ (t : Position). record t { attempts = attempts_after pieces w.limit (position_of w) xs }) (position_of-append_pieces w ps)
            ∙ ap (λ (n : ℕ). position_behind pieces n (position_of w) xs) h.limit_is
            ∙ ap (λ (t : Position). position_behind pieces limit t xs) h.position_is;
      }

  -- ---- decoding a section

  -- items are decoded where they were written, and lead to a stage again
  pub items_again : (P : X → Type 0) (R : List ℕ → ℕ → X → ℕ → Type 0) → Rereads pieces P R → (bytes : List ℕ) (s : Position) (xs : List X) → Stage bytes s → AreWritable (all_pieces pieces s xs) → AllByRecursion P xs
      → (after s (all_pieces pieces s xs)).place < 65536
      → Follow (R (bytes ++ form s (all_pieces pieces s xs))) s.place xs (after s (all_pieces pieces s xs)).place × Stage (bytes ++ form s (all_pieces pieces s xs)) (after s (all_pieces pieces s xs))
  items_again P R rereads bytes s [] stage are each small = (refl, subst (λ (b : List ℕ). Stage b s) (sym (append-nil bytes)) stage)
  items_again P R rereads bytes s (x ∷ xs) stage are each small =
      let ps : List Piece = pieces x s in
      let next : Position = after s ps in
      let qs : List Piece = all_pieces pieces next xs in
      let grown : List ℕ = bytes ++ form s ps in
      let split = writable-split ps qs are in
      let ends : after s (ps ++ qs) ≡ after next qs = after-append s ps qs in
      let small' : (after next qs).place < 65536 = omega (arith, small, ap (λ (t : Position). t.place) ends) in
      let first = rereads.again bytes s x stage split.0 each.0 (omega (arith, small', after-place next qs)) in
      let more = items_again P R rereads grown next xs (stage_again bytes s ps stage split.0).1 split.1 each.1 small' in
      let joined : grown ++ form next qs ≡ bytes ++ form s (ps ++ qs) = append_assoc bytes (form s ps) (form next qs) ∙ ap (λ (b : List ℕ). bytes ++ b) (sym (form-append s ps qs)) in
      let all : Follow (R (grown ++ form next qs)) s.place (x ∷ xs) (after next qs).place × Stage (grown ++ form next qs) (after next qs) =
      ((next.place, rereads.stays grown (form next qs) s.place x next.place first, more.0), more.1) in
      subst (λ (b : List ℕ). Follow (R b) s.place (x ∷ xs) (after s (ps ++ qs)).place × Stage b (after s (ps ++ qs))) joined
      (subst (λ (t : Position). Follow (R (grown ++ form next qs)) s.place (x ∷ xs) t.place × Stage (grown ++ form next qs) t) (sym ends) all)

  -- so are the items of a section that fit
  pub section_again : (P : X → Type 0) (R : List ℕ → ℕ → X → ℕ → Type 0) → Rereads pieces P R → (limit : ℕ) (bytes : List ℕ) (s : Position) (xs : List X) → Stage bytes s
      → AreWritable (all_pieces pieces s (fitting_prefix pieces limit s xs)) → AllByRecursion P xs → (position_behind pieces limit s xs).place < 65536
      → Follow (R (bytes ++ fitting_form pieces limit s xs)) s.place (fitting_prefix pieces limit s xs) (position_behind pieces limit s xs).place
      × Stage (bytes ++ fitting_form pieces limit s xs) (position_behind pieces limit s xs)
  section_again P R rereads limit bytes s xs stage are each small =
      let again = items_again P R rereads bytes s (fitting_prefix pieces limit s xs) stage are (fitting_prefix-each P limit s xs each) small in
      (again.0, record { encoding = again.1.encoding; place = again.1.place; targets = again.1.targets })
