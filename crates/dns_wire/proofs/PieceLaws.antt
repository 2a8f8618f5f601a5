-- Pieces one after another.
use Rattle.std.proofs.Common.{◌≡◌, ℕ, zero, suc, ◌+◌, ◌<◌, ◌≤◌, Bool, true, false, cond, ltb, List, [], ◌∷◌, ◌++◌, length, take, drop, Option, Some, None, Result, Ok, Err, max, refl, sym, ap, subst, ◌∙◌, ◌⊎◌, inr, append_assoc, arith, length-append, length-drop}
use Rattle.std.specs.Option.{option_map_or}
use Rattle.std.specs.List.{AllByRecursion}
use Rattle.std.specs.Prelude.{◌&&◌, is_some, OnOk}
use Rattle.std.proofs.lemmas.Bool.{ltb-false, le-ltb}
use Rattle.std.proofs.lemmas.Result.{on_ok_weaker, on_err_weaker}
use Rattle.std.proofs.lemmas.List.{take-append-le, take_all, drop_at, drop-append-le, append-nil}
use Rattle.dns_wire.specs.declared.error.EncodeError.{EncodeError}
use Rattle.dns_wire.specs.declared.name_encoding.NameEncoding.{NameEncoding}
use Rattle.dns_wire.specs.declared.name_encoding.NameEncoding.TheVariants.{Compressed, Uncompressed, UncompressedLowercase}
use Rattle.dns_wire.specs.declared.name_encoding.RDataEncoding.{RDataEncoding}
use Rattle.dns_wire.specs.declared.name_encoding.RDataEncoding.TheVariants.{StandardRecord, Canonical, Other}
use Rattle.dns_wire.specs.NameEncoding.{rdata_mode}
use Rattle.dns_wire.specs.Encoder.{Suffix, EncoderState, IsAtEnd, CanRollBack, suffixes_before, place_of, remember, trim_to_offset}
use Rattle.dns_wire.specs.Name.{AreLabels}
use Rattle.dns_wire.specs.Reading.{ReadsName}
use Rattle.dns_wire.specs.Writing.{labels_form, whole_form, spelling, compresses, IsWholeEncoding, pointer_form, compressed_form, remember_labels, IsPointerTarget, ArePointerTargets}
use Rattle.dns_wire.specs.Encodable.{Piece, Plain, Domain, Whole, Position, position_of, is_compressed, name_form, piece_form, piece_suffixes, piece_attempts, piece_next, piece_reach, name_piece, form, after, reach, attempts_at_limit, append_pieces, Emits, BytesAt, PieceAt, PiecesAt, IsWritable, AreWritable, AllBehind}
use Rattle.dns_wire.proofs.SuffixLaws.{suffixes_before-before, suffixes_before-remember, suffixes_before-all, all_weaker}
use Rattle.dns_wire.proofs.ReadingLaws.{reads-append}
use Rattle.dns_wire.proofs.NameLaws.{name_len-spelling, spelling-are_labels, length-labels_form, length-whole_form, whole_reads}
use Rattle.dns_wire.specs.Laws.{pointer_target, piece_target, TargetSurvives, ArePointerTargetsUnlessLost}
use Rattle.dns_wire.proofs.CompressionLaws.{unless, unless_lost-append, compressed_decodes, remember_labels-targets_again, remember_labels-behind}

-- ---- how far the writing comes

-- the place goes on by the form
pub after-place : (s : Position) (ps : List Piece) → (after s ps).place ≡ s.place + length (form s ps)
after-place s [] = omega arith
after-place s (p ∷ ps) = omega (arith, after-place (piece_next s p) ps, length-append (piece_form s p) (form (piece_next s p) ps))

pub after-encoding : (s : Position) (ps : List Piece) → (after s ps).encoding ≡ s.encoding
after-encoding s [] = refl
after-encoding s (p ∷ ps) = after-encoding (piece_next s p) ps

pub after-canonical : (s : Position) (ps : List Piece) → (after s ps).canonical ≡ s.canonical
after-canonical s [] = refl
after-canonical s (p ∷ ps) = after-canonical (piece_next s p) ps

-- no piece depends on whether record data has its canonical form
pub piece_target-canonical : (s : Position) (canonical : Bool) (p : Piece) → piece_target (record s { canonical = canonical }) p ≡ piece_target s p
piece_target-canonical s canonical (Plain bytes) = refl
piece_target-canonical s canonical (Whole labels) = refl
piece_target-canonical s canonical (Domain labels) = refl

pub append_pieces-canonical : (w : EncoderState) (canonical : Bool) (p : Piece) → append_pieces (record w { canonical = canonical }) (p ∷ []) ≡ record (append_pieces w (p ∷ [])) { canonical = canonical }
append_pieces-canonical w canonical (Plain bytes) = refl
append_pieces-canonical w canonical (Whole labels) = refl
append_pieces-canonical w canonical (Domain labels) = refl

-- ---- where names are written whole

not_compressed : (s : Position) → IsWholeEncoding s.encoding → is_compressed s ≡ false
not_compressed s whole = rw whole refl

name_form-whole : (s : Position) (labels : List (List ℕ)) → IsWholeEncoding s.encoding → name_form s labels ≡ whole_form (spelling s.encoding labels)
name_form-whole s labels whole = rw (not_compressed s whole) refl

piece_next-whole : (s : Position) (p : Piece) → IsWholeEncoding s.encoding → piece_next s p ≡ record s { place = s.place + length (piece_form s p) }
piece_next-whole s (Plain bytes) whole = refl
piece_next-whole s (Whole labels) whole = refl
piece_next-whole s (Domain labels) whole = ap (λ (b : Bool). record s { place = s.place + length (name_form s labels); suffixes = cond b (remember_labels s.suffixes s.place labels) s.suffixes; attempts = cond b (s.attempts + 1) s.attempts }) (not_compressed s whole)

-- nothing else goes on
pub after-is : (s : Position) (ps : List Piece) → IsWholeEncoding s.encoding → after s ps ≡ record s { place = s.place + length (form s ps) }
after-is s [] whole = ap (λ (n : ℕ). record s { place = n }) (omega arith)
after-is s (p ∷ ps) whole =
    let next : Position = piece_next s p in
    after-is next ps whole ∙ ap (λ (t : Position). record t { place = next.place + length (form next ps) }) (piece_next-whole s p whole)
    ∙ ap (λ (n : ℕ). record s { place = n }) (omega (arith, length-append (piece_form s p) (form next ps)))

pub after-suffixes : (s : Position) (ps : List Piece) → IsWholeEncoding s.encoding → (after s ps).suffixes ≡ s.suffixes
after-suffixes s ps whole = ap (λ (t : Position). t.suffixes) (after-is s ps whole)

pub after-attempts : (s : Position) (ps : List Piece) → IsWholeEncoding s.encoding → (after s ps).attempts ≡ s.attempts
after-attempts s ps whole = ap (λ (t : Position). t.attempts) (after-is s ps whole)

-- a name takes a byte at least, however it is written
pub name_form-some : (s : Position) (labels : List (List ℕ)) → 1 ≤ length (name_form s labels)
name_form-some s labels = at (is_compressed s)
  where
    pointer : (found : Option ℕ) (whole : List ℕ) → 1 ≤ length whole → 1 ≤ length (option_map_or pointer_form found whole)
    pointer (Some target) whole some = omega arith
    pointer None whole some = some

    compressed : (labels : List (List ℕ)) → 1 ≤ length (compressed_form s.suffixes labels)
    compressed [] = omega arith
    compressed (l ∷ ls) = pointer (place_of s.suffixes (labels_form (l ∷ ls))) (length l ∷ (l ++ compressed_form s.suffixes ls)) (omega arith)

    at : (b : Bool) → 1 ≤ length (cond b (compressed_form s.suffixes labels) (whole_form (spelling s.encoding labels)))
    at true = compressed labels
    at false = omega (arith, length-append (labels_form (spelling s.encoding labels)) (0 ∷ []))

-- a piece's writing reaches its end, and no further
pub piece_reach-whole : (s : Position) (p : Piece) → IsWholeEncoding s.encoding → piece_reach s p ≡ s.place + length (piece_form s p)
piece_reach-whole s (Plain bytes) whole = refl
piece_reach-whole s (Whole labels) whole = refl
piece_reach-whole s (Domain labels) whole =
    let names : List (List ℕ) = spelling s.encoding labels in
    omega (arith, ap length (name_form-whole s labels whole), length-whole_form names, name_len-spelling s.encoding labels, length-labels_form labels)

-- the writing reaches no further than the place behind it
pub reach-form : (s : Position) (ps : List Piece) → IsWholeEncoding s.encoding → reach s ps ≤ (after s ps).place
reach-form s [] whole = omega arith
reach-form s (p ∷ ps) whole = omega (arith, reach-form (piece_next s p) ps whole, after-place (piece_next s p) ps, piece_reach-whole s p whole)

-- and reaches it, where there is something to write
pub reach-some : (s : Position) (p : Piece) (ps : List Piece) → IsWholeEncoding s.encoding → reach s (p ∷ ps) ≡ (after s (p ∷ ps)).place
reach-some s p [] whole = omega (arith, piece_reach-whole s p whole)
reach-some s p (q ∷ ps) whole = omega (arith, reach-some (piece_next s p) q ps whole, after-place (piece_next s p) (q ∷ ps), piece_reach-whole s p whole)

-- the place and what is remembered change no form
pub piece_form-encoding : (s t : Position) (p : Piece) → IsWholeEncoding s.encoding → s.encoding ≡ t.encoding → piece_form s p ≡ piece_form t p
piece_form-encoding s t (Plain bytes) whole e = refl
piece_form-encoding s t (Whole labels) whole e = refl
piece_form-encoding s t (Domain labels) whole e =
    name_form-whole s labels whole ∙ ap (λ (encoding : NameEncoding). whole_form (spelling encoding labels)) e ∙ sym (name_form-whole t labels (subst IsWholeEncoding e whole))

pub form-encoding : (s t : Position) (ps : List Piece) → IsWholeEncoding s.encoding → s.encoding ≡ t.encoding → form s ps ≡ form t ps
form-encoding s t [] whole e = refl
form-encoding s t (p ∷ ps) whole e =
    ap (λ (xs : List ℕ). xs ++ form (piece_next s p) ps) (piece_form-encoding s t p whole e) ∙ ap (λ (xs : List ℕ). piece_form t p ++ xs) (form-encoding (piece_next s p) (piece_next t p) ps whole e)

-- ---- one list after another

pub form-append : (s : Position) (ps qs : List Piece) → form s (ps ++ qs) ≡ form s ps ++ form (after s ps) qs
form-append s [] qs = refl
form-append s (p ∷ ps) qs =
    ap (λ (xs : List ℕ). piece_form s p ++ xs) (form-append (piece_next s p) ps qs) ∙ sym (append_assoc (piece_form s p) (form (piece_next s p) ps) (form (after (piece_next s p) ps) qs))

pub after-append : (s : Position) (ps qs : List Piece) → after s (ps ++ qs) ≡ after (after s ps) qs
after-append s [] qs = refl
after-append s (p ∷ ps) qs = after-append (piece_next s p) ps qs

pub reach-append : (s : Position) (ps qs : List Piece) → reach s (ps ++ qs) ≡ max (reach s ps) (reach (after s ps) qs)
reach-append s [] qs = omega arith
reach-append s (p ∷ ps) qs = omega (arith, reach-append (piece_next s p) ps qs)

-- how many names were begun where the first list reaches no further than the limit, and where it does
pub attempts_at_limit-append : (limit : ℕ) (s : Position) (ps qs : List Piece) → reach s ps ≤ limit → attempts_at_limit limit s (ps ++ qs) ≡ attempts_at_limit limit (after s ps) qs
attempts_at_limit-append limit s [] qs fits = refl
attempts_at_limit-append limit s (p ∷ ps) qs fits =
    let no : ltb limit (piece_reach s p) ≡ false = le-ltb _ _ (omega arith) in
    rw no (attempts_at_limit-append limit (piece_next s p) ps qs (omega arith))

pub attempts_at_limit-stops : (limit : ℕ) (s : Position) (ps qs : List Piece) → limit < reach s ps → attempts_at_limit limit s (ps ++ qs) ≡ attempts_at_limit limit s ps
attempts_at_limit-stops limit s [] qs over = absurd (omega arith)
attempts_at_limit-stops limit s (p ∷ ps) qs over = at (ltb limit (piece_reach s p)) refl (λ later. attempts_at_limit-stops limit (piece_next s p) ps qs later)
  where
    at : (b : Bool) → ltb limit (piece_reach s p) ≡ b → (limit < reach (piece_next s p) ps → attempts_at_limit limit (piece_next s p) (ps ++ qs) ≡ attempts_at_limit limit (piece_next s p) ps)
        → cond b (piece_next s p).attempts (attempts_at_limit limit (piece_next s p) (ps ++ qs)) ≡ cond b (piece_next s p).attempts (attempts_at_limit limit (piece_next s p) ps)
    at true e more = refl
    at false e more = more (omega (arith, ltb-false _ _ e))

-- what was appended lies so far
pub position_of-append_pieces : (w : EncoderState) (ps : List Piece) → position_of (append_pieces w ps) ≡ after (position_of w) ps
position_of-append_pieces w ps =
    let s : Position = after (position_of w) ps in
    ap (λ (e : NameEncoding). record s { encoding = e; canonical = w.canonical }) (sym (after-encoding (position_of w) ps)) ∙ ap (λ (b : Bool). record s { canonical = b }) (sym (after-canonical (position_of w) ps))

pub append_pieces-append : (w : EncoderState) (ps qs : List Piece) → append_pieces (append_pieces w ps) qs ≡ append_pieces w (ps ++ qs)
append_pieces-append w ps qs =
    let s : Position = position_of w in
    let joined : (w.bytes ++ form s ps) ++ form (position_of (append_pieces w ps)) qs ≡ w.bytes ++ form s (ps ++ qs) =
    append_assoc w.bytes (form s ps) (form (position_of (append_pieces w ps)) qs)
    ∙ ap (λ (t : Position). w.bytes ++ (form s ps ++ form t qs)) (position_of-append_pieces w ps)
    ∙ ap (λ (xs : List ℕ). w.bytes ++ xs) (sym (form-append s ps qs)) in
    let ends : after (position_of (append_pieces w ps)) qs ≡ after s (ps ++ qs) = ap (λ (t : Position). after t qs) (position_of-append_pieces w ps) ∙ sym (after-append s ps qs) in
    ap (λ (xs : List ℕ). let t : Position = after (position_of (append_pieces w ps)) qs in record w { bytes = xs; offset = t.place; suffixes = t.suffixes; attempts = t.attempts }) joined
    ∙ ap (λ (t : Position). record w { bytes = w.bytes ++ form s (ps ++ qs); offset = t.place; suffixes = t.suffixes; attempts = t.attempts }) ends

pub append_pieces-none : (w : EncoderState) → append_pieces w [] ≡ w
append_pieces-none w = ap (λ (xs : List ℕ). record w { bytes = xs }) (append-nil w.bytes)

-- only the bytes and the offset change where names are written whole
pub append_pieces-is : (w : EncoderState) (ps : List Piece) → IsWholeEncoding w.encoding → append_pieces w ps ≡ record w { bytes = w.bytes ++ form (position_of w) ps; offset = w.offset + length (form (position_of w) ps) }
append_pieces-is w ps whole = ap (λ (t : Position). record w { bytes = w.bytes ++ form (position_of w) ps; offset = t.place; suffixes = t.suffixes; attempts = t.attempts }) (after-is (position_of w) ps whole)

pub append_pieces-end : (w : EncoderState) (ps : List Piece) → IsAtEnd w → IsAtEnd (append_pieces w ps)
append_pieces-end w ps end = omega (arith, after-place (position_of w) ps, length-append w.bytes (form (position_of w) ps), end)

pub writable-append : (ps qs : List Piece) → AreWritable ps → AreWritable qs → AreWritable (ps ++ qs)
writable-append [] qs a b = b
writable-append (p ∷ ps) qs a b = (a.0, writable-append ps qs a.1 b)

-- ---- taking back

suffixes_before-remember_labels : (place here : ℕ) (suffixes : List Suffix) (labels : List (List ℕ)) → place ≤ here → suffixes_before place (remember_labels suffixes here labels) ≡ suffixes_before place suffixes
suffixes_before-remember_labels place here suffixes [] le = refl
suffixes_before-remember_labels place here suffixes (l ∷ ls) le =
    let bytes : List ℕ = labels_form (l ∷ ls) in
    at (is_some (place_of suffixes bytes)) (suffixes_before-remember_labels place (here + (length l + 1)) (remember suffixes here bytes) ls (omega arith) ∙ suffixes_before-remember place here suffixes bytes le)
  where
    at : (b : Bool) → suffixes_before place (remember_labels (remember suffixes here (labels_form (l ∷ ls))) (here + (length l + 1)) ls) ≡ suffixes_before place suffixes
        → suffixes_before place (cond b (suffixes_before here suffixes) (remember_labels (remember suffixes here (labels_form (l ∷ ls))) (here + (length l + 1)) ls)) ≡ suffixes_before place suffixes
    at true more = suffixes_before-before place here suffixes le
    at false more = more

suffixes_before-next : (place : ℕ) (s : Position) (p : Piece) → place ≤ s.place → suffixes_before place (piece_suffixes s p) ≡ suffixes_before place s.suffixes
suffixes_before-next place s (Plain bytes) le = refl
suffixes_before-next place s (Whole labels) le = refl
suffixes_before-next place s (Domain labels) le = at (is_compressed s)
  where
    at : (b : Bool) → suffixes_before place (cond b (remember_labels s.suffixes s.place labels) s.suffixes) ≡ suffixes_before place s.suffixes
    at true = suffixes_before-remember_labels place s.place s.suffixes labels le
    at false = refl

pub suffixes_before-after : (place : ℕ) (s : Position) (ps : List Piece) → place ≤ s.place → suffixes_before place (after s ps).suffixes ≡ suffixes_before place s.suffixes
suffixes_before-after place s [] le = refl
suffixes_before-after place s (p ∷ ps) le = suffixes_before-after place (piece_next s p) ps (omega arith) ∙ suffixes_before-next place s p le

pub next-attempts : (s : Position) (p : Piece) → s.attempts ≤ piece_attempts s p
next-attempts s (Plain bytes) = omega arith
next-attempts s (Whole labels) = omega arith
next-attempts s (Domain labels) = at (is_compressed s)
  where
    at : (b : Bool) → s.attempts ≤ cond b (s.attempts + 1) s.attempts
    at true = omega arith
    at false = omega arith

pub attempts-after : (s : Position) (ps : List Piece) → s.attempts ≤ (after s ps).attempts
attempts-after s [] = omega arith
attempts-after s (p ∷ ps) = omega (arith, next-attempts s p, attempts-after (piece_next s p) ps)

pub can_roll_back-append : (w : EncoderState) (ps : List Piece) → IsAtEnd w → CanRollBack w (append_pieces w ps)
can_roll_back-append w ps end = record {
  bytes = take-append-le w.offset w.bytes (form (position_of w) ps) (omega arith);
  within = omega (arith, length-append w.bytes (form (position_of w) ps));
  suffixes = suffixes_before-after w.offset (position_of w) ps (omega arith);
  attempts = attempts-after (position_of w) ps;
  same = refl;
}

pub take-shorter : {A : Type 0} (m n : ℕ) (xs : List A) → m ≤ n → take m (take n xs) ≡ take m xs
take-shorter zero n xs le = refl
take-shorter (suc m) zero xs le = absurd (omega arith)
take-shorter (suc m) (suc n) [] le = refl
take-shorter (suc m) (suc n) (x ∷ xs) le = ap (λ l. x ∷ l) (take-shorter m n xs (omega arith))

pub can_roll_back-refl : (w : EncoderState) → IsAtEnd w → CanRollBack w w
can_roll_back-refl w end = record { bytes = refl; within = omega (arith, end); suffixes = refl; attempts = omega arith; same = refl }

-- a state with the bytes, the offset, the suffixes and the attempts of another
abbrev rolled_to : EncoderState → EncoderState → EncoderState
rolled_to w new = record w { bytes = new.bytes; offset = new.offset; suffixes = new.suffixes; attempts = new.attempts }

pub can_roll_back-trans : (old mid new : EncoderState) → old.offset ≤ mid.offset → CanRollBack old mid → CanRollBack mid new → CanRollBack old new
can_roll_back-trans old mid new le a b = record {
  bytes = sym (take-shorter old.offset mid.offset new.bytes le) ∙ ap (take old.offset) b.bytes ∙ take-shorter old.offset mid.offset mid.bytes le ∙ a.bytes;
  within = omega (arith, b.within);
  suffixes = sym (suffixes_before-before old.offset mid.offset new.suffixes le) ∙ ap (suffixes_before old.offset) b.suffixes ∙ suffixes_before-before old.offset mid.offset mid.suffixes le ∙ a.suffixes;
  attempts = omega (arith, a.attempts, b.attempts);
  same = b.same ∙ ap (λ (w : EncoderState). rolled_to w new) a.same;
}

-- going back to where a refused write began, and trimming, gives what was there, but for the names that were begun
pub roll_back-restores : (old new : EncoderState) → IsAtEnd old → AllBehind (position_of old) → CanRollBack old new → trim_to_offset (record new { offset = old.offset }) ≡ record old { attempts = new.attempts }
roll_back-restores old new end behind back =
    let bytes : take old.offset new.bytes ≡ old.bytes = back.bytes ∙ take_all old.offset old.bytes (omega arith) in
    let suffixes : suffixes_before old.offset new.suffixes ≡ old.suffixes = back.suffixes ∙ suffixes_before-all old.offset old.suffixes behind in
    ap (λ (xs : List ℕ). record new { bytes = xs; offset = old.offset; suffixes = suffixes_before old.offset new.suffixes }) bytes
    ∙ ap (λ (ss : List Suffix). record new { bytes = old.bytes; offset = old.offset; suffixes = ss }) suffixes
    ∙ ap (λ (w : EncoderState). record w { bytes = old.bytes; offset = old.offset; suffixes = old.suffixes; attempts = new.attempts }) back.same

pub targets-behind : (w : EncoderState) → IsAtEnd w → ArePointerTargets w.bytes w.suffixes → AllBehind (position_of w)
targets-behind w end stand = all_weaker {P = IsPointerTarget w.bytes} {Q = λ x. x.start < w.offset} (λ x q. omega (arith, q.within, end)) w.suffixes stand

-- ---- one writing after another

pub emits_none : (w : EncoderState) → Emits w [] (Ok tt) w
emits_none w = record { ok = sym (append_pieces-none w); room = omega arith; full = λ e. absurd (cc); tries = λ e. absurd (cc); back = tt }

pub emits_then : (old mid new : EncoderState) (ps qs : List Piece) (r : Result (Unit {0}) EncodeError) → IsAtEnd old → Emits old ps (Ok tt) mid → Emits mid qs r new → Emits old (ps ++ qs) r new
emits_then old mid new ps qs r end a b = at r (subst (λ (w : EncoderState). Emits w qs r new) a.ok b)
  where
    on : old.offset ≤ (append_pieces old ps).offset
    on = omega (arith, after-place (position_of old) ps)

    both : reach (position_of old) (ps ++ qs) ≡ max (reach (position_of old) ps) (reach (position_of (append_pieces old ps)) qs)
    both = reach-append (position_of old) ps qs ∙ ap (λ (t : Position). max (reach (position_of old) ps) (reach t qs)) (sym (position_of-append_pieces old ps))

    at : (r : Result (Unit {0}) EncodeError) → Emits (append_pieces old ps) qs r new → Emits old (ps ++ qs) r new
    at (Ok u) b = record {
      ok = b.ok ∙ append_pieces-append old ps qs;
      room = omega (arith, both, a.room, b.room);
      full = λ e. absurd (cc);
      tries = λ e. absurd (cc);
      back = tt;
    }
    at (Err error) b = record {
      ok = tt;
      room = tt;
      full = λ e. omega (arith, both, b.full e);
      tries = λ e. b.tries e ∙ ap (λ (t : Position). attempts_at_limit old.limit t qs) (position_of-append_pieces old ps) ∙ sym (attempts_at_limit-append old.limit (position_of old) ps qs a.room);
      back = can_roll_back-trans old (append_pieces old ps) new on (can_roll_back-append old ps end) b.back;
    }

pub emits_stop : (old new : EncoderState) (ps qs : List Piece) (error : EncodeError) → Emits old ps (Err error) new → Emits old (ps ++ qs) (Err error) new
emits_stop old new ps qs error a = record {
  ok = tt;
  room = tt;
  full = λ e. omega (arith, reach-append (position_of old) ps qs, a.full e);
  tries = λ e. a.tries e ∙ sym (attempts_at_limit-stops old.limit (position_of old) ps qs (a.full e));
  back = a.back;
}

-- ---- a name in a mode of its own

whole_name : (s : Position) (encoding : NameEncoding) (labels : List (List ℕ)) → IsWholeEncoding encoding → let t : Position = record s { encoding = encoding } in
    (form t (Domain labels ∷ []) ≡ form s (Whole (spelling encoding labels) ∷ [])) × (after t (Domain labels ∷ []) ≡ record (after s (Whole (spelling encoding labels) ∷ [])) { encoding = encoding })
    × (reach t (Domain labels ∷ []) ≡ reach s (Whole (spelling encoding labels) ∷ []))
whole_name s encoding labels whole =
    let t : Position = record s { encoding = encoding } in
    let names : List (List ℕ) = spelling encoding labels in
    let is : name_form t labels ≡ whole_form names = name_form-whole t labels whole in (
      ap (λ (xs : List ℕ). xs ++ []) is,
      piece_next-whole t (Domain labels) whole ∙ ap (λ (xs : List ℕ). record t { place = s.place + length xs }) is,
      omega (arith, piece_reach-whole t (Domain labels) whole, ap length is),
    )

attempts_at_limit-one : (limit : ℕ) (s : Position) (p : Piece) → attempts_at_limit limit s (p ∷ []) ≡ piece_attempts s p
attempts_at_limit-one limit s p = at (ltb limit (piece_reach s p))
  where
    at : (b : Bool) → cond b (piece_attempts s p) (piece_attempts s p) ≡ piece_attempts s p
    at true = refl
    at false = refl

-- a name that is written whole while the mode is set for it alone
pub emits_whole : (old new : EncoderState) (encoding : NameEncoding) (labels : List (List ℕ)) (r : Result (Unit {0}) EncodeError) → IsWholeEncoding encoding → Emits (record old { encoding = encoding }) (Domain labels ∷ []) r new
    → Emits old (Whole (spelling encoding labels) ∷ []) r (record new { encoding = old.encoding })
emits_whole old new encoding labels r whole e =
    let s : Position = position_of old in
    let t : Position = record s { encoding = encoding } in
    let same = whole_name s encoding labels whole in
    let attempts : piece_attempts t (Domain labels) ≡ s.attempts = ap (λ (u : Position). u.attempts) (piece_next-whole t (Domain labels) whole) in
    record {
      ok = on_ok_weaker r (λ is. ap (λ (w : EncoderState). record w { encoding = old.encoding }) is
          ∙ ap (λ (xs : List ℕ). let u : Position = after t (Domain labels ∷ []) in record old { bytes = old.bytes ++ xs; offset = u.place; suffixes = u.suffixes; attempts = u.attempts }) same.0
          ∙ ap (λ (u : Position). record old { bytes = old.bytes ++ form s (Whole (spelling encoding labels) ∷ []); offset = u.place; suffixes = u.suffixes; attempts = u.attempts }) same.1) e.ok;
      room = subst (λ (n : ℕ). OnOk r (n ≤ old.limit)) same.2 e.room;
      full = λ is. subst (λ (n : ℕ). old.limit < n) same.2 (e.full is);
      tries = λ is. e.tries is ∙ attempts_at_limit-one old.limit t (Domain labels) ∙ attempts ∙ sym (attempts_at_limit-one old.limit s (Whole (spelling encoding labels)));
      back = on_err_weaker r (λ b. record { bytes = b.bytes; within = b.within; suffixes = b.suffixes; attempts = b.attempts; same = ap (λ (w : EncoderState). record w { encoding = old.encoding }) b.same }) e.back;
    }

-- a write changes neither how names are encoded
emits-encoding : (old new : EncoderState) (ps : List Piece) (r : Result (Unit {0}) EncodeError) → Emits old ps r new → new.encoding ≡ old.encoding
emits-encoding old new ps (Ok u) e = ap (λ (w : EncoderState). w.encoding) e.ok
emits-encoding old new ps (Err error) e = ap (λ (w : EncoderState). w.encoding) e.back.same

emits-restored : (old new : EncoderState) (ps : List Piece) (r : Result (Unit {0}) EncodeError) → Emits old ps r new → Emits old ps r (record new { encoding = old.encoding })
emits-restored old new ps r e = subst (λ (encoding : NameEncoding). Emits old ps r (record new { encoding = encoding })) (emits-encoding old new ps r e) e

-- a name of record data, while the encoding that it requires is set for it alone
pub emits_name_piece : (old new : EncoderState) (kind : RDataEncoding) (labels : List (List ℕ)) (r : Result (Unit {0}) EncodeError) → Emits (record old { encoding = rdata_mode kind old.canonical old.encoding }) (Domain labels ∷ []) r new
    → Emits old (name_piece kind old.canonical labels ∷ []) r (record new { encoding = old.encoding })
emits_name_piece old new kind labels r e = at kind old.canonical e
  where
    at : (k : RDataEncoding) (b : Bool) → Emits (record old { encoding = rdata_mode k b old.encoding }) (Domain labels ∷ []) r new → Emits old (name_piece k b labels ∷ []) r (record new { encoding = old.encoding })
    at StandardRecord false e = emits-restored old new (Domain labels ∷ []) r e
    at StandardRecord true e = emits_whole old new UncompressedLowercase labels r refl e
    at Canonical false e = emits_whole old new Uncompressed labels r refl e
    at Canonical true e = emits_whole old new UncompressedLowercase labels r refl e
    at Other false e = emits_whole old new Uncompressed labels r refl e
    at Other true e = emits_whole old new Uncompressed labels r refl e

pub name_piece-writable : (kind : RDataEncoding) (canonical : Bool) (labels : List (List ℕ)) → AreLabels labels → IsWritable (name_piece kind canonical labels)
name_piece-writable StandardRecord false labels are = are
name_piece-writable StandardRecord true labels are = spelling-are_labels UncompressedLowercase labels are
name_piece-writable Canonical false labels are = are
name_piece-writable Canonical true labels are = spelling-are_labels UncompressedLowercase labels are
name_piece-writable Other false labels are = are
name_piece-writable Other true labels are = are

-- ---- bytes that follow change nothing

bytes_at-append : (buffer more : List ℕ) (place end : ℕ) (bytes : List ℕ) → BytesAt buffer place bytes end → BytesAt (buffer ++ more) place bytes end
bytes_at-append buffer more place end bytes s = record {
  ends = s.ends;
  within = omega (arith, s.within, length-append buffer more);
  there =
      let d : drop place (buffer ++ more) ≡ drop place buffer ++ more = drop-append-le place buffer more (omega (arith, s.ends, s.within)) in
      ap (take (length bytes)) d ∙ take-append-le (length bytes) (drop place buffer) more (omega (arith, s.ends, s.within, length-drop place buffer)) ∙ s.there;
}

pub piece_at-append : (encoding : NameEncoding) (buffer more : List ℕ) (place : ℕ) (p : Piece) (end : ℕ) → PieceAt encoding buffer place p end → PieceAt encoding (buffer ++ more) place p end
piece_at-append encoding buffer more place (Plain bytes) end h = bytes_at-append buffer more place end bytes h
piece_at-append encoding buffer more place (Domain labels) end h = reads-append more h
piece_at-append encoding buffer more place (Whole labels) end h = reads-append more h

pub pieces_at-append : (encoding : NameEncoding) (buffer more : List ℕ) (place : ℕ) (ps : List Piece) (end : ℕ) → PiecesAt encoding buffer place ps end → PiecesAt encoding (buffer ++ more) place ps end
pieces_at-append encoding buffer more place [] end h = h
pieces_at-append encoding buffer more place (p ∷ ps) end h = (h.0, piece_at-append encoding buffer more place p h.0 h.1, pieces_at-append encoding buffer more h.0 ps end h.2)

-- ---- pieces that stand after one another

pub pieces_at-join : (encoding : NameEncoding) (buffer : List ℕ) (place middle end : ℕ) (ps qs : List Piece) → PiecesAt encoding buffer place ps middle → PiecesAt encoding buffer middle qs end → PiecesAt encoding buffer place (ps ++ qs) end
pieces_at-join encoding buffer place middle end [] qs a b = subst (λ (n : ℕ). PiecesAt encoding buffer n qs end) (sym a) b
pieces_at-join encoding buffer place middle end (p ∷ ps) qs a b = (a.0, a.1, pieces_at-join encoding buffer a.0 middle end ps qs a.2 b)

pub pieces_at-split : (encoding : NameEncoding) (buffer : List ℕ) (place end : ℕ) (ps qs : List Piece) → PiecesAt encoding buffer place (ps ++ qs) end
    → (middle : ℕ) × PiecesAt encoding buffer place ps middle × PiecesAt encoding buffer middle qs end
pieces_at-split encoding buffer place end [] qs h = (place, refl, h)
pieces_at-split encoding buffer place end (p ∷ ps) qs h =
    let more = pieces_at-split encoding buffer h.0 end ps qs h.2 in
    (more.0, (h.0, h.1, more.1), more.2)

-- ---- what was written is read again

bytes_at-there : (buffer bytes : List ℕ) (place : ℕ) → place ≡ length buffer → BytesAt (buffer ++ bytes) place bytes (place + length bytes)
bytes_at-there buffer bytes place end = record {
  ends = refl;
  within = omega (arith, length-append buffer bytes);
  there = ap (take (length bytes)) (drop_at buffer bytes place (sym end)) ∙ take_all (length bytes) bytes (omega arith);
}

names_decode : (bytes : List ℕ) (place : ℕ) (names : List (List ℕ)) → place ≡ length bytes → AreLabels names → ReadsName (bytes ++ whole_form names) place names (place + length (whole_form names))
names_decode bytes place names end are =
    let unread : drop place (bytes ++ whole_form names) ≡ whole_form names ++ [] = drop_at bytes (whole_form names) place (sym end) ∙ sym (append-nil (whole_form names)) in
    let whole = whole_reads (bytes ++ whole_form names) place place 255 names [] are.each are.fits unread in
    subst (λ (n : ℕ). ReadsName (bytes ++ whole_form names) place names n) (ap (λ (n : ℕ). place + n) (sym (length-whole_form names))) whole

spelling_decodes : (bytes : List ℕ) (s : Position) (labels : List (List ℕ)) → s.place ≡ length bytes → AreLabels labels
    → ReadsName (bytes ++ whole_form (spelling s.encoding labels)) s.place (spelling s.encoding labels) (s.place + length (whole_form (spelling s.encoding labels)))
spelling_decodes bytes s labels end is = names_decode bytes s.place (spelling s.encoding labels) end (spelling-are_labels s.encoding labels is)

and_left : (a b : Bool) → (a && b) ≡ true → a ≡ true
and_left true b e = refl
and_left false b e = absurd (cc)

-- a name is spelled as it is where names are compressed
compressed-spelling : (encoding : NameEncoding) (labels : List (List ℕ)) → compresses encoding ≡ true → spelling encoding labels ≡ labels
compressed-spelling Compressed labels e = refl
compressed-spelling Uncompressed labels e = refl
compressed-spelling UncompressedLowercase labels e = absurd (cc)

-- a name is read where it was written, and what is remembered then stands, but for what is lost
name_decodes : (lost : ℕ → Type 0) (bytes : List ℕ) (s : Position) (labels : List (List ℕ)) → s.place ≡ length bytes → ArePointerTargetsUnlessLost lost bytes s.suffixes → AllBehind s → AreLabels labels → TargetSurvives lost (piece_target s (Domain labels))
    → PieceAt s.encoding (bytes ++ name_form s labels) s.place (Domain labels) (s.place + length (name_form s labels)) × ArePointerTargetsUnlessLost lost (bytes ++ name_form s labels) (piece_suffixes s (Domain labels))
name_decodes lost bytes s labels end stand behind is clear = at (is_compressed s) refl clear
  where
    behind' : AllByRecursion (λ x. x.start < length bytes) s.suffixes
    behind' = subst (λ (n : ℕ). AllByRecursion (λ x. x.start < n) s.suffixes) end behind

    at : (b : Bool) → is_compressed s ≡ b → TargetSurvives lost (cond b (pointer_target s.suffixes labels) None)
        → ReadsName (bytes ++ cond b (compressed_form s.suffixes labels) (whole_form (spelling s.encoding labels))) s.place (spelling s.encoding labels) (s.place + length (cond b (compressed_form s.suffixes labels) (whole_form (spelling s.encoding labels))))
        × ArePointerTargetsUnlessLost lost (bytes ++ cond b (compressed_form s.suffixes labels) (whole_form (spelling s.encoding labels))) (cond b (remember_labels s.suffixes s.place labels) s.suffixes)
    at true e clear =
        let shape : spelling s.encoding labels ≡ labels = compressed-spelling s.encoding labels (and_left (compresses s.encoding) (ltb s.attempts 120) e) in (
          subst (λ (ls : List (List ℕ)). ReadsName (bytes ++ compressed_form s.suffixes labels) s.place ls (s.place + length (compressed_form s.suffixes labels))) (sym shape)
              (subst (λ (n : ℕ). ReadsName (bytes ++ compressed_form s.suffixes labels) n labels (n + length (compressed_form s.suffixes labels))) (sym end) (compressed_decodes lost bytes s.suffixes labels is stand behind' clear)),
          subst (λ (n : ℕ). ArePointerTargetsUnlessLost lost (bytes ++ compressed_form s.suffixes labels) (remember_labels s.suffixes n labels)) (sym end) (remember_labels-targets_again lost bytes s.suffixes labels is stand behind' clear),
        )
    at false e clear = (spelling_decodes bytes s labels end is, unless_lost-append lost bytes (whole_form (spelling s.encoding labels)) s.suffixes stand)

pub piece_decodes : (lost : ℕ → Type 0) (bytes : List ℕ) (s : Position) (p : Piece) → s.place ≡ length bytes → ArePointerTargetsUnlessLost lost bytes s.suffixes → AllBehind s → IsWritable p → TargetSurvives lost (piece_target s p)
    → PieceAt s.encoding (bytes ++ piece_form s p) s.place p (piece_next s p).place × ArePointerTargetsUnlessLost lost (bytes ++ piece_form s p) (piece_suffixes s p)
piece_decodes lost bytes s (Plain more) end stand behind is clear = (bytes_at-there bytes more s.place end, unless_lost-append lost bytes more s.suffixes stand)
piece_decodes lost bytes s (Domain labels) end stand behind is clear = name_decodes lost bytes s labels end stand behind is clear
piece_decodes lost bytes s (Whole labels) end stand behind is clear = (names_decode bytes s.place labels end is, unless_lost-append lost bytes (whole_form labels) s.suffixes stand)

-- what is remembered behind a piece begins before its end
pub piece-behind : (s : Position) (p : Piece) → AllBehind s → AllBehind (piece_next s p)
piece-behind s p behind = on p
  where
    further : (n : ℕ) → AllByRecursion (λ x. x.start < s.place + n) s.suffixes
    further n = all_weaker {P = λ x. x.start < s.place} {Q = λ x. x.start < s.place + n} (λ x q. omega (arith, q)) s.suffixes behind

    at : (labels : List (List ℕ)) (b : Bool) → AllByRecursion (λ x. x.start < s.place + length (cond b (compressed_form s.suffixes labels) (whole_form (spelling s.encoding labels)))) (cond b (remember_labels s.suffixes s.place labels) s.suffixes)
    at labels true = remember_labels-behind s.suffixes s.suffixes s.place (s.place + length (compressed_form s.suffixes labels)) labels (further (length (compressed_form s.suffixes labels))) (λ bytes lt. refl) (omega arith)
    at labels false = further (length (whole_form (spelling s.encoding labels)))

    on : (p : Piece) → AllBehind (piece_next s p)
    on (Plain bytes) = further (length bytes)
    on (Domain labels) = at labels (is_compressed s)
    on (Whole labels) = further (length (whole_form labels))

pub pieces-behind : (s : Position) (ps : List Piece) → AllBehind s → AllBehind (after s ps)
pieces-behind s [] behind = behind
pieces-behind s (p ∷ ps) behind = pieces-behind (piece_next s p) ps (piece-behind s p behind)

abbrev nothing : ℕ → Type 0
nothing place = ⊥

-- pieces are read where they were written, and what is remembered then stands
pub pieces_decode : (bytes : List ℕ) (s : Position) (ps : List Piece) → s.place ≡ length bytes → ArePointerTargets bytes s.suffixes → AreWritable ps
    → PiecesAt s.encoding (bytes ++ form s ps) s.place ps (after s ps).place × ArePointerTargets (bytes ++ form s ps) (after s ps).suffixes
pieces_decode bytes s [] end stand is = (refl, subst (λ (xs : List ℕ). ArePointerTargets xs s.suffixes) (sym (append-nil bytes)) stand)
pieces_decode bytes s (p ∷ ps) end stand is =
    let grown : List ℕ = bytes ++ piece_form s p in
    let unlost : ArePointerTargetsUnlessLost nothing bytes s.suffixes = all_weaker {P = IsPointerTarget bytes} {Q = λ x. nothing x.start ⊎ IsPointerTarget bytes x} (λ x q. inr q) s.suffixes stand in
    let behind : AllBehind s = all_weaker {P = IsPointerTarget bytes} {Q = λ x. x.start < s.place} (λ x q. omega (arith, q.within, end)) s.suffixes stand in
    let one = piece_decodes nothing bytes s p end unlost behind is.0 (λ target e is_lost. is_lost) in
    let stand' : ArePointerTargets grown (piece_suffixes s p) = all_weaker {P = λ x. nothing x.start ⊎ IsPointerTarget grown x} {Q = IsPointerTarget grown} (λ x q. unless q (λ is_lost. is_lost)) (piece_suffixes s p) one.1 in
    let more = pieces_decode grown (piece_next s p) ps (omega (arith, length-append bytes (piece_form s p))) stand' is.1 in
    let same : grown ++ form (piece_next s p) ps ≡ bytes ++ form s (p ∷ ps) = append_assoc bytes (piece_form s p) (form (piece_next s p) ps) in (
      subst (λ (xs : List ℕ). PiecesAt s.encoding xs s.place (p ∷ ps) (after (piece_next s p) ps).place) same ((piece_next s p).place, piece_at-append s.encoding grown (form (piece_next s p) ps) s.place p (piece_next s p).place one.0, more.0),
      subst (λ (xs : List ℕ). ArePointerTargets xs (after (piece_next s p) ps).suffixes) same more.1,
    )

whole_piece_decodes : (bytes : List ℕ) (s : Position) (p : Piece) → IsWholeEncoding s.encoding → s.place ≡ length bytes → IsWritable p → PieceAt s.encoding (bytes ++ piece_form s p) s.place p (piece_next s p).place
whole_piece_decodes bytes s (Plain more) whole end is = bytes_at-there bytes more s.place end
whole_piece_decodes bytes s (Whole labels) whole end is = names_decode bytes s.place labels end is
whole_piece_decodes bytes s (Domain labels) whole end is = rw (name_form-whole s labels whole) (spelling_decodes bytes s labels end is)

-- names that are written whole are read whatever is remembered
pub whole_pieces_decode : (bytes : List ℕ) (s : Position) (ps : List Piece) → IsWholeEncoding s.encoding → s.place ≡ length bytes → AreWritable ps → PiecesAt s.encoding (bytes ++ form s ps) s.place ps (after s ps).place
whole_pieces_decode bytes s [] whole end is = refl
whole_pieces_decode bytes s (p ∷ ps) whole end is =
    let grown : List ℕ = bytes ++ piece_form s p in
    let one = piece_at-append s.encoding grown (form (piece_next s p) ps) s.place p (piece_next s p).place (whole_piece_decodes bytes s p whole end is.0) in
    let more = whole_pieces_decode grown (piece_next s p) ps whole (omega (arith, length-append bytes (piece_form s p))) is.1 in
    let same : grown ++ form (piece_next s p) ps ≡ bytes ++ form s (p ∷ ps) = append_assoc bytes (piece_form s p) (form (piece_next s p) ps) in
    subst (λ (xs : List ℕ). PiecesAt s.encoding xs s.place (p ∷ ps) (after (piece_next s p) ps).place) same ((piece_next s p).place, one, more)
