-- A message that fits with its names uncompressed is not cut.
use Rattle.std.proofs.Common.{◌≡◌, ℕ, ◌+◌, ◌≤◌, ◌%◌, ◌||◌, Bool, true, false, cond, ltb, List, [], ◌∷◌, ◌++◌, length, Option, Some, None, refl, sym, ap, subst, ◌∙◌, arith, length-append}
use Rattle.std.proofs.lemmas.Bool.{le-ltb}
use Rattle.dns_wire.specs.declared.name_encoding.NameEncoding.TheVariants.{Uncompressed}
use Rattle.dns_wire.specs.Name.{name_len}
use Rattle.dns_wire.specs.Encodable.{Piece, Plain, Domain, Whole, Position, piece_next, form, after, reach}
use Rattle.dns_wire.specs.Items.{fitting_prefix, all_pieces}
use Rattle.dns_wire.specs.internal.Sections.{position_behind}
use Rattle.dns_wire.specs.Writing.{whole_form}
use Rattle.dns_wire.proofs.NameLaws.{length-whole_form}
use Rattle.dns_wire.proofs.PieceLaws.{after-append, after-canonical}
use Rattle.dns_wire.proofs.SectionLaws.{pieces_max_len, piece_max_len, name_form-most, reach-most}
use Rattle.dns_data.specs.rdata.{data_pieces}
use Rattle.dns_records.specs.Record.{Record}
use Rattle.dns_messages.specs.declared.response_code.ResponseCode.{ResponseCode}
use Rattle.dns_messages.specs.declared.edns.Edns.{Edns}
use Rattle.dns_messages.specs.declared.message.Message.{Message}
use Rattle.dns_messages.specs.Header.{code_number, code_of}
use Rattle.dns_messages.specs.Edns.{opt_record}
use Rattle.dns_messages.specs.Sound.{IsSound, IsExtendedBy}
use Rattle.dns_messages.specs.Cut.{query_item, record_item, edns_item, listed, fitting_item, written_edns, header_end, queries_pieces, queries_end, answers_end, authorities_end, additionals_end, edns_end, remaining, is_cut, remaining_code, cut, uncompressed_position, items_len, uncompressed_len}
use Rattle.dns_messages.proofs.DecodeLaws.{written_edns_sound}

-- ---- lengths

uncompressed-len : (s : Position) (ps : List Piece) → s.encoding ≡ Uncompressed → pieces_max_len ps ≡ length (form s ps)
uncompressed-len s [] e = refl
uncompressed-len s (Plain bytes ∷ ps) e =
    omega (arith, uncompressed-len (piece_next s (Plain bytes)) ps e, length-append bytes (form (piece_next s (Plain bytes)) ps))
uncompressed-len s (Domain labels ∷ ps) e =
    let next : Position = piece_next s (Domain labels) in
    let name : length (form s (Domain labels ∷ ps)) ≡ length (whole_form labels ++ form next ps) = rw e refl in
    omega (arith, uncompressed-len next ps e, name, length-append (whole_form labels) (form next ps), length-whole_form labels)
uncompressed-len s (Whole labels ∷ ps) e =
    omega (arith, uncompressed-len (piece_next s (Whole labels)) ps e, length-append (whole_form labels) (form (piece_next s (Whole labels)) ps), length-whole_form labels)

next-most : (s : Position) (p : Piece) → (piece_next s p).place ≤ s.place + piece_max_len p
next-most s (Plain bytes) = omega arith
next-most s (Domain labels) = omega (arith, name_form-most s labels)
next-most s (Whole labels) = omega (arith, length-whole_form labels)

after-most : (s : Position) (ps : List Piece) → (after s ps).place ≤ s.place + pieces_max_len ps
after-most s [] = omega arith
after-most s (p ∷ ps) = omega (arith, next-most s p, after-most (piece_next s p) ps)

abbrev item_len : {X : Type 0} → (X → Position → List Piece) → X → ℕ
item_len pieces x = length (form uncompressed_position (pieces x uncompressed_position))

-- the length of an item does not depend on the position
abbrev IsSized : {X : Type 0} → (X → Position → List Piece) → Type 0
IsSized {X} pieces = (x : X) (s : Position) → s.canonical ≡ false → pieces_max_len (pieces x s) ≡ item_len pieces x

query-sized : IsSized query_item
query-sized q s e = uncompressed-len uncompressed_position (query_item q uncompressed_position) refl

record-sized : IsSized record_item
record-sized r s e =
    let same : pieces_max_len (record_item r s) ≡ pieces_max_len (record_item r uncompressed_position) = ap (λ (b : Bool). name_len r.name.labels + (2 + (2 + (4 + (2 + pieces_max_len (data_pieces b r.rdata)))))) e in
    same ∙ uncompressed-len uncompressed_position (record_item r uncompressed_position) refl

edns-sized : IsSized edns_item
edns-sized x s e = record-sized (opt_record x) s e

module _ {X : Type 0} (pieces : X → Position → List Piece) (sized : IsSized pieces) where
  -- all items fit that have room with their names uncompressed
  all-fit : (limit : ℕ) (s : Position) (xs : List X) → s.canonical ≡ false → s.place + items_len pieces xs ≤ limit → (fitting_prefix pieces limit s xs ≡ xs) × ((after s (all_pieces pieces s xs)).place ≤ s.place + items_len pieces xs)
  all-fit limit s [] e le = (refl, omega arith)
  all-fit limit s (x ∷ xs) e le =
      let ps : List Piece = pieces x s in
      let next : Position = after s ps in
      let step : next.place ≤ s.place + item_len pieces x = omega (arith, after-most s ps, sized x s e) in
      let fits : ltb limit (reach s ps) ≡ false = le-ltb _ _ (omega (arith, reach-most s ps, sized x s e, le)) in
      let more = all-fit limit next xs (after-canonical s ps ∙ e) (omega (arith, step, le)) in (
        ap (λ (b : Bool). cond b [] (x ∷ fitting_prefix pieces limit next xs)) fits ∙ ap (λ (ys : List X). x ∷ ys) more.0,
        omega (arith, more.1, step, ap (λ (t : Position). t.place) (after-append s ps (all_pieces pieces next xs))),
      )

  behind-fit : (limit : ℕ) (s : Position) (xs : List X) → s.canonical ≡ false → s.place + items_len pieces xs ≤ limit → (position_behind pieces limit s xs).place ≤ s.place + items_len pieces xs
  behind-fit limit s xs e le = let h = all-fit limit s xs e le in subst (λ (ys : List X). (after s (all_pieces pieces s ys)).place ≤ s.place + items_len pieces xs) (sym h.0) h.1

  behind-canonical : (limit : ℕ) (s : Position) (xs : List X) → s.canonical ≡ false → (position_behind pieces limit s xs).canonical ≡ false
  behind-canonical limit s xs e = after-canonical s (all_pieces pieces s (fitting_prefix pieces limit s xs)) ∙ e

  one-fit : (limit : ℕ) (s : Position) (found : Option X) → s.canonical ≡ false → s.place + items_len pieces (listed found) ≤ limit → fitting_item pieces limit s found ≡ found
  one-fit limit s None e le = refl
  one-fit limit s (Some x) e le = ap (λ (b : Bool). cond b None (Some x)) (le-ltb _ _ (omega (arith, reach-most s (pieces x s), sized x s e, le)))

-- ---- the whole message

not-less : (n : ℕ) → ltb n n ≡ false
not-less n = le-ltb _ _ (omega arith)

or-false : (b : Bool) → (b || false) ≡ b
or-false true = refl
or-false false = refl

not-cut : (m : Message) → is_cut m m ≡ false
not-cut m = rw (not-less (length m.answers), not-less (length m.authorities), not-less (length m.additionals), not-less (length (listed m.edns)), not-less (length (listed m.signature))) refl

code-kept : (found : Option Edns) (code : ResponseCode) → IsExtendedBy found code → code_of (code_number code) ≡ code → remaining_code found code ≡ code
code-kept None code small named =
    let low : code_number code % 16 ≡ code_number code = omega (arith, small) in
    ap code_of low ∙ named
code-kept (Some e) code small named = refl

remaining-all : (limit : ℕ) (m : Message) → IsSound m → uncompressed_len m ≤ limit → remaining limit m ≡ m
remaining-all limit m sound le =
    let written : written_edns m ≡ m.edns = written_edns_sound m sound in
    let edns_len : items_len edns_item (listed (written_edns m)) ≡ items_len edns_item (listed m.edns) = ap (λ (x : Option Edns). items_len edns_item (listed x)) written in
    let q = all-fit query_item query-sized limit header_end m.queries refl (omega (arith, le)) in
    let p0 : (queries_end m).place ≤ 12 + items_len query_item m.queries = q.1 in
    let c0 : (queries_end m).canonical ≡ false = after-canonical header_end (queries_pieces m) in
    let a = all-fit record_item record-sized limit (queries_end m) m.answers c0 (omega (arith, le, p0)) in
    let p1 = behind-fit record_item record-sized limit (queries_end m) m.answers c0 (omega (arith, le, p0)) in
    let c1 = behind-canonical record_item record-sized limit (queries_end m) m.answers c0 in
    let n = all-fit record_item record-sized limit (answers_end limit m) m.authorities c1 (omega (arith, le, p0, p1)) in
    let p2 = behind-fit record_item record-sized limit (answers_end limit m) m.authorities c1 (omega (arith, le, p0, p1)) in
    let c2 = behind-canonical record_item record-sized limit (answers_end limit m) m.authorities c1 in
    let d = all-fit record_item record-sized limit (authorities_end limit m) m.additionals c2 (omega (arith, le, p0, p1, p2)) in
    let p3 = behind-fit record_item record-sized limit (authorities_end limit m) m.additionals c2 (omega (arith, le, p0, p1, p2)) in
    let c3 = behind-canonical record_item record-sized limit (authorities_end limit m) m.additionals c2 in
    let o = one-fit edns_item edns-sized limit (additionals_end limit m) (written_edns m) c3 (omega (arith, le, p0, p1, p2, p3, edns_len)) in
    let p4 = behind-fit edns_item edns-sized limit (additionals_end limit m) (listed (written_edns m)) c3 (omega (arith, le, p0, p1, p2, p3, edns_len)) in
    let c4 = behind-canonical edns_item edns-sized limit (additionals_end limit m) (listed (written_edns m)) c3 in
    let g = one-fit record_item record-sized limit (edns_end limit m) m.signature c4 (omega (arith, le, p0, p1, p2, p3, p4, edns_len)) in
    ap (λ (xs : List Record). record (remaining limit m) { answers = xs }) a.0
    ∙ ap (λ (xs : List Record). record (remaining limit m) { answers = m.answers; authorities = xs }) n.0
    ∙ ap (λ (xs : List Record). record (remaining limit m) { answers = m.answers; authorities = m.authorities; additionals = xs }) d.0
    ∙ ap (λ (e : Option Edns). record m { edns = e; signature = (remaining limit m).signature }) (o ∙ written)
    ∙ ap (λ (x : Option Record). record m { signature = x }) g

pub uncut : (limit : ℕ) (m : Message) → IsSound m → uncompressed_len m ≤ limit → cut limit m ≡ m
uncut limit m sound le =
    let same = remaining-all limit m sound le in
    ap (λ (l : Message). record l { metadata = record m.metadata { truncation = m.metadata.truncation || is_cut l m; response_code = remaining_code l.edns m.metadata.response_code } }) same
    ∙ ap (λ (b : Bool). record m { metadata = record m.metadata { truncation = m.metadata.truncation || b; response_code = remaining_code m.edns m.metadata.response_code } }) (not-cut m)
    ∙ ap (λ (b : Bool). record m { metadata = record m.metadata { truncation = b; response_code = remaining_code m.edns m.metadata.response_code } }) (or-false m.metadata.truncation)
    ∙ ap (λ (code : ResponseCode). record m { metadata = record m.metadata { response_code = code } }) (code-kept m.edns m.metadata.response_code sound.extended sound.metadata.code_named)
