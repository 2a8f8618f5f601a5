-- Bytes that are written over later.
use Rattle.std.proofs.Common.{◌≡◌, ℕ, ◌+◌, ◌≤◌, cond, ltb, Ok, Err, List, [], ◌∷◌, ◌++◌, length, take, drop, max, refl, sym, ap, ◌∙◌, append_assoc, arith, length-append}
use Rattle.std.proofs.lemmas.List.{take_at, drop_at}
use Rattle.dns_wire.specs.declared.error.EncodeError.{EncodeError}
use Rattle.dns_wire.specs.Encoder.{EncoderState, IsAtEnd, put_at}
use Rattle.dns_wire.specs.Encodable.{Piece, Plain, Position, position_of, piece_next, piece_reach, form, after, reach, attempts_at_limit, append_pieces, Emits}
use Rattle.dns_wire.proofs.PieceLaws.{after-place, after-append, form-append}

-- ---- as many bytes

-- what is written behind bytes depends on their number alone
pub after-same_len : (s : Position) (a b : List ℕ) (ps : List Piece) → length a ≡ length b → after s (Plain a ∷ ps) ≡ after s (Plain b ∷ ps)
after-same_len s a b ps e = ap (λ (n : ℕ). after (record s { place = s.place + n }) ps) e

pub form-same_len : (s : Position) (a b : List ℕ) (ps : List Piece) → length a ≡ length b → form s (Plain b ∷ ps) ≡ b ++ form (piece_next s (Plain a)) ps
form-same_len s a b ps e = ap (λ (n : ℕ). b ++ form (record s { place = s.place + n }) ps) (sym e)

pub reach-same_len : (s : Position) (hs ds : List Piece) (a b : List ℕ) → length a ≡ length b → reach s (hs ++ Plain a ∷ ds) ≡ reach s (hs ++ Plain b ∷ ds)
reach-same_len s [] ds a b e = ap (λ (n : ℕ). max (s.place + n) (reach (record s { place = s.place + n }) ds)) e
reach-same_len s (h ∷ hs) ds a b e = ap (λ (n : ℕ). max (piece_reach s h) n) (reach-same_len (piece_next s h) hs ds a b e)

pub attempts_at_limit-same_len : (limit : ℕ) (s : Position) (hs ds : List Piece) (a b : List ℕ) → length a ≡ length b → attempts_at_limit limit s (hs ++ Plain a ∷ ds) ≡ attempts_at_limit limit s (hs ++ Plain b ∷ ds)
attempts_at_limit-same_len limit s [] ds a b e = ap (λ (n : ℕ). cond (ltb limit (s.place + n)) s.attempts (attempts_at_limit limit (record s { place = s.place + n }) ds)) e
attempts_at_limit-same_len limit s (h ∷ hs) ds a b e = ap (λ (n : ℕ). cond (ltb limit (piece_reach s h)) (piece_next s h).attempts n) (attempts_at_limit-same_len limit (piece_next s h) hs ds a b e)

-- ---- written over

pub put_in_front : (place : ℕ) (front a b rest : List ℕ) → place ≡ length front → length a ≡ length b → put_at place b (front ++ (a ++ rest)) ≡ front ++ (b ++ rest)
put_in_front place front a b rest is len =
    let unchanged : take place (front ++ (a ++ rest)) ≡ front = take_at front (a ++ rest) place (sym is) in
    let behind : drop (place + length b) (front ++ (a ++ rest)) ≡ rest = ap (drop (place + length b)) (sym (append_assoc front a rest)) ∙ drop_at (front ++ a) rest (place + length b) (omega (arith, length-append front a)) in
    rw (unchanged, behind) refl

-- bytes among the pieces
pub fills : (w : EncoderState) (hs ds : List Piece) (a b : List ℕ) (place : ℕ) → IsAtEnd w → length a ≡ length b → place ≡ (after (position_of w) hs).place
    → record (append_pieces w (hs ++ Plain a ∷ ds)) { bytes = put_at place b (append_pieces w (hs ++ Plain a ∷ ds)).bytes } ≡ append_pieces w (hs ++ Plain b ∷ ds)
fills w hs ds a b place end len is =
    let s : Position = after (position_of w) hs in
    let front : List ℕ = w.bytes ++ form (position_of w) hs in
    let rest : List ℕ = form (piece_next s (Plain a)) ds in
    let with_a : w.bytes ++ form (position_of w) (hs ++ Plain a ∷ ds) ≡ front ++ (a ++ rest) = ap (λ (xs : List ℕ). w.bytes ++ xs) (form-append (position_of w) hs (Plain a ∷ ds)) ∙ sym (append_assoc w.bytes (form (position_of w) hs) (a ++ rest)) in
    let with_b : w.bytes ++ form (position_of w) (hs ++ Plain b ∷ ds) ≡ front ++ (b ++ rest) =
    ap (λ (xs : List ℕ). w.bytes ++ xs) (form-append (position_of w) hs (Plain b ∷ ds)) ∙ sym (append_assoc w.bytes (form (position_of w) hs) (form s (Plain b ∷ ds))) ∙ ap (λ (xs : List ℕ). front ++ xs) (form-same_len s a b ds len) in
    let at : place ≡ length front = omega (arith, is, after-place (position_of w) hs, length-append w.bytes (form (position_of w) hs), end) in
    let bytes : put_at place b (w.bytes ++ form (position_of w) (hs ++ Plain a ∷ ds)) ≡ w.bytes ++ form (position_of w) (hs ++ Plain b ∷ ds) = ap (put_at place b) with_a ∙ put_in_front place front a b rest at len ∙ sym with_b in
    let ends : after (position_of w) (hs ++ Plain a ∷ ds) ≡ after (position_of w) (hs ++ Plain b ∷ ds) = after-append (position_of w) hs (Plain a ∷ ds) ∙ after-same_len s a b ds len ∙ sym (after-append (position_of w) hs (Plain b ∷ ds)) in
    ap (λ (xs : List ℕ). record (append_pieces w (hs ++ Plain a ∷ ds)) { bytes = xs }) bytes
    ∙ ap (λ (t : Position). record w { bytes = w.bytes ++ form (position_of w) (hs ++ Plain b ∷ ds); offset = t.place; suffixes = t.suffixes; attempts = t.attempts }) ends

-- ---- filled emissions

-- a refusal doesn't depend on which bytes they were
pub refused_same_len : (old new : EncoderState) (hs ds : List Piece) (a b : List ℕ) (error : EncodeError) → length a ≡ length b → Emits old (hs ++ Plain a ∷ ds) (Err error) new → Emits old (hs ++ Plain b ∷ ds) (Err error) new
refused_same_len old new hs ds a b error len e = record {
  ok = tt;
  room = tt;
  full = λ is. omega (arith, e.full is, reach-same_len (position_of old) hs ds a b len);
  tries = λ is. e.tries is ∙ attempts_at_limit-same_len old.limit (position_of old) hs ds a b len;
  back = e.back;
}

-- pieces were emitted, and then bytes among them were written over
pub emits_filled : (old mid new : EncoderState) (hs ds : List Piece) (a b : List ℕ) (place : ℕ) → IsAtEnd old → length a ≡ length b → place ≡ (after (position_of old) hs).place → Emits old (hs ++ Plain a ∷ ds) (Ok tt) mid
    → new ≡ record mid { bytes = put_at place b mid.bytes } → Emits old (hs ++ Plain b ∷ ds) (Ok tt) new
emits_filled old mid new hs ds a b place end len at e is = record {
  ok = is ∙ ap (λ (w : EncoderState). record w { bytes = put_at place b w.bytes }) e.ok ∙ fills old hs ds a b place end len at;
  room = omega (arith, e.room, reach-same_len (position_of old) hs ds a b len);
  full = λ no. absurd (cc);
  tries = λ no. absurd (cc);
  back = tt;
}

-- the place lies within the size
pub place_within : (limit : ℕ) (s : Position) (hs ds : List Piece) (a : List ℕ) → reach s (hs ++ Plain a ∷ ds) ≤ limit → (after s hs).place + length a ≤ limit
place_within limit s [] ds a fits = omega arith
place_within limit s (h ∷ hs) ds a fits = place_within limit (piece_next s h) hs ds a (omega arith)
