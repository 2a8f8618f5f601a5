-- Writing a name, label by label.
use Rattle.std.proofs.Common.{◌≡◌, ℕ, ◌+◌, ◌<◌, ◌≤◌, Bool, true, false, cond, ltb, List, [], ◌∷◌, ◌++◌, length, Result, Ok, Err, refl, sym, ap, ◌∙◌, subst, arith, length-append}
use Rattle.std.specs.Prelude.{OnOk, OnErr}
use Rattle.std.proofs.lemmas.List.{append-nil, length-map}
use Rattle.std.specs.Char.{to_ascii_lowercase}
use Rattle.std.specs.List.{AllByRecursion}
use Rattle.dns_wire.specs.Name.{IsLabel, AreLabels, name_len}
use Rattle.dns_names.specs.Compare.{lower}
use Rattle.std.proofs.lemmas.Result.{on_ok_weaker, on_err_weaker}
use Rattle.dns_wire.specs.Encoder.{EncoderState, IsAtEnd, CanRollBack}
use Rattle.dns_wire.specs.Writing.{labels_form, whole_form, spelling, compressed_form, remember_labels}
use Rattle.dns_wire.specs.Encodable.{Piece, Plain, Domain, Position, position_of, is_compressed, name_form, piece_reach, form, after, reach, attempts_at_limit, append_pieces, Emits}
use Rattle.dns_wire.specs.declared.error.EncodeError.{EncodeError}
use Rattle.dns_wire.specs.declared.error.EncodeError.TheVariants.{MaxBufferSizeExceeded}
use Rattle.dns_wire.proofs.NameLaws.{name_len-spelling, length-labels_form, length-whole_form}
use Rattle.dns_wire.proofs.PieceLaws.{form-append, after-append, reach-append, append_pieces-end, emits_then}
use Rattle.dns_names.specs.internal.Wire.{labels_pieces, whole_pieces, append_compressed, compressed_reach}

pub still_at_end : (old mid : EncoderState) (ps : List Piece) → IsAtEnd old → Emits old ps (Ok tt) mid → IsAtEnd mid
still_at_end old mid ps end e = subst IsAtEnd (sym e.ok) (append_pieces-end old ps end)

pub closes : (old mid new : EncoderState) (labels : List (List ℕ)) (r : Result (Unit {0}) EncodeError) → IsAtEnd old → Emits old (labels_pieces labels) (Ok tt) mid → Emits mid (Plain (0 ∷ []) ∷ []) r new → Emits old (whole_pieces labels) r new
closes old mid new labels r end before here = emits_then old mid new (labels_pieces labels) (Plain (0 ∷ []) ∷ []) r end before here

-- ---- what the plain pieces come to

pub form-labels : (s : Position) (labels : List (List ℕ)) → form s (labels_pieces labels) ≡ labels_form labels
form-labels s labels = append-nil (labels_form labels)

form-whole : (s : Position) (labels : List (List ℕ)) → form s (whole_pieces labels) ≡ whole_form labels
form-whole s labels = form-append s (labels_pieces labels) (Plain (0 ∷ []) ∷ []) ∙ ap (λ (bytes : List ℕ). bytes ++ 0 ∷ []) (form-labels s labels)

-- only the place goes on
pub after-labels : (s : Position) (labels : List (List ℕ)) → after s (labels_pieces labels) ≡ record s { place = s.place + length (labels_form labels) }
after-labels s labels = refl

after-whole : (s : Position) (labels : List (List ℕ)) → after s (whole_pieces labels) ≡ record s { place = s.place + length (whole_form labels) }
after-whole s labels =
    after-append s (labels_pieces labels) (Plain (0 ∷ []) ∷ []) ∙ ap (λ (t : Position). record t { place = t.place + 1 }) (after-labels s labels)
    ∙ ap (λ (n : ℕ). record s { place = n }) (omega (arith, length-append (labels_form labels) (0 ∷ [])))

pub reach-labels : (s : Position) (labels : List (List ℕ)) → reach s (labels_pieces labels) ≡ s.place + length (labels_form labels)
reach-labels s labels = omega arith

reach-whole : (s : Position) (labels : List (List ℕ)) → reach s (whole_pieces labels) ≡ s.place + length (whole_form labels)
reach-whole s labels =
    omega (arith, reach-append s (labels_pieces labels) (Plain (0 ∷ []) ∷ []), ap (λ (t : Position). t.place) (after-labels s labels), reach-labels s labels, length-append (labels_form labels) (0 ∷ []))

-- no name is tried
tried-labels : (limit : ℕ) (s : Position) (labels : List (List ℕ)) (qs : List Piece) → attempts_at_limit limit (after s (labels_pieces labels)) qs ≡ s.attempts → attempts_at_limit limit s (labels_pieces labels ++ qs) ≡ s.attempts
tried-labels limit s labels qs more = at (ltb limit (s.place + length (labels_form labels))) more
  where
    at : (a : Bool) → attempts_at_limit limit (after s (labels_pieces labels)) qs ≡ s.attempts → cond a s.attempts (attempts_at_limit limit (after s (labels_pieces labels)) qs) ≡ s.attempts
    at true more = refl
    at false more = more

pub tried-only_labels : (limit : ℕ) (s : Position) (labels : List (List ℕ)) → attempts_at_limit limit s (labels_pieces labels) ≡ s.attempts
tried-only_labels limit s labels =
    subst (λ (ps : List Piece). attempts_at_limit limit s ps ≡ s.attempts) (append-nil (labels_pieces labels)) (tried-labels limit s labels [] (ap (λ (t : Position). t.attempts) (after-labels s labels)))

tried-whole : (limit : ℕ) (s : Position) (labels : List (List ℕ)) → attempts_at_limit limit s (whole_pieces labels) ≡ s.attempts
tried-whole limit s labels = tried-labels limit s labels (Plain (0 ∷ []) ∷ []) (at (ltb limit (piece_reach t (Plain (0 ∷ [])))) (ap (λ (u : Position). u.attempts) (after-labels s labels)))
  where
    t : Position
    t = after s (labels_pieces labels)

    at : (b : Bool) → t.attempts ≡ s.attempts → cond b t.attempts t.attempts ≡ s.attempts
    at true e = e
    at false e = e

-- ---- a name that is written whole

module _ (s : Position) (labels : List (List ℕ)) (whole : is_compressed s ≡ false) where
  abbrev names : List (List ℕ)
  names = spelling s.encoding labels

  name_form-is : name_form s labels ≡ whole_form names
  name_form-is = rw whole refl

  form-domain : form s (Domain labels ∷ []) ≡ whole_form names
  form-domain = append-nil (name_form s labels) ∙ name_form-is

  after-domain : after s (Domain labels ∷ []) ≡ record s { place = s.place + length (whole_form names) }
  after-domain = ap (λ (b : Bool). record s { place = s.place + length (name_form s labels); suffixes = cond b (remember_labels s.suffixes s.place labels) s.suffixes; attempts = cond b (s.attempts + 1) s.attempts }) whole
      ∙ ap (λ (bytes : List ℕ). record s { place = s.place + length bytes }) name_form-is

  reach-domain : reach s (Domain labels ∷ []) ≡ s.place + length (whole_form names)
  reach-domain = omega (arith, ap length name_form-is, length-whole_form names, name_len-spelling s.encoding labels, length-labels_form labels)

  tried-domain : (limit : ℕ) → attempts_at_limit limit s (Domain labels ∷ []) ≡ s.attempts
  tried-domain limit = at (ltb limit (piece_reach s (Domain labels))) (is_compressed s) whole
    where
      at : (over b : Bool) → b ≡ false → cond over (cond b (s.attempts + 1) s.attempts) (cond b (s.attempts + 1) s.attempts) ≡ s.attempts
      at over true e = absurd (cc)
      at true false e = refl
      at false false e = refl

-- the labels as they are spelled, written piece by piece, are the name
pub emits_name : (old new : EncoderState) (labels : List (List ℕ)) (r : Result (Unit {0}) EncodeError) → is_compressed (position_of old) ≡ false → Emits old (whole_pieces (spelling old.encoding labels)) r new → Emits old (Domain labels ∷ []) r new
emits_name old new labels r whole e =
    let s : Position = position_of old in
    let ns : List (List ℕ) = spelling old.encoding labels in
    let forms : form s (whole_pieces ns) ≡ form s (Domain labels ∷ []) = form-whole s ns ∙ sym (form-domain s labels whole) in
    let ends : after s (whole_pieces ns) ≡ after s (Domain labels ∷ []) = after-whole s ns ∙ sym (after-domain s labels whole) in
    let reaches : reach s (whole_pieces ns) ≡ reach s (Domain labels ∷ []) = reach-whole s ns ∙ sym (reach-domain s labels whole) in
    let same : append_pieces old (whole_pieces ns) ≡ append_pieces old (Domain labels ∷ []) =
    ap (λ (bytes : List ℕ). let t : Position = after s (whole_pieces ns) in record old { bytes = old.bytes ++ bytes; offset = t.place; suffixes = t.suffixes; attempts = t.attempts }) forms
    ∙ ap (λ (t : Position). record old { bytes = old.bytes ++ form s (Domain labels ∷ []); offset = t.place; suffixes = t.suffixes; attempts = t.attempts }) ends in
    record {
      ok = on_ok_weaker r (λ is. is ∙ same) e.ok;
      room = subst (λ (n : ℕ). OnOk r (n ≤ old.limit)) reaches e.room;
      full = λ is. subst (λ (n : ℕ). old.limit < n) reaches (e.full is);
      tries = λ is. e.tries is ∙ tried-whole old.limit s ns ∙ sym (tried-domain s labels whole old.limit);
      back = e.back;
    }

-- the same for a name's labels that were spelled before, and an encoder that is as it was
pub emits_spelled : (old start new : EncoderState) (labels names : List (List ℕ)) (r : Result (Unit {0}) EncodeError) → start ≡ old → names ≡ spelling old.encoding labels → is_compressed (position_of old) ≡ false
    → Emits start (whole_pieces names) r new → Emits old (Domain labels ∷ []) r new
emits_spelled old start new labels names r same are whole e =
    emits_name old new labels r whole (subst (λ (ns : List (List ℕ)). Emits old (whole_pieces ns) r new) are (subst (λ (w : EncoderState). Emits w (whole_pieces names) r new) same e))

-- ---- a name that is written compressed

pub emits_compressed : (old start new : EncoderState) (labels : List (List ℕ)) (r : Result (Unit {0}) EncodeError) → is_compressed (position_of old) ≡ true → start ≡ record old { attempts = old.attempts + 1 }
    → OnOk r (new ≡ append_compressed start labels) → OnOk r (compressed_reach start labels ≤ start.limit) → (r ≡ Err MaxBufferSizeExceeded → start.limit < compressed_reach start labels)
    → (r ≡ Err MaxBufferSizeExceeded → new.attempts ≡ start.attempts) → OnErr r (CanRollBack start new) → Emits old (Domain labels ∷ []) r new
emits_compressed old start new labels r few is ok room full tries back =
    let next : EncoderState = record old { attempts = old.attempts + 1 } in
    let app : append_pieces old (Domain labels ∷ []) ≡ append_compressed next labels = rw few (rw (append-nil (compressed_form old.suffixes labels)) refl) in
    let reaches : reach (position_of old) (Domain labels ∷ []) ≡ compressed_reach next labels = rw few (omega arith) in
    let bounds : start.limit ≡ old.limit = ap (λ (w : EncoderState). w.limit) is in
    let reach_is : compressed_reach start labels ≡ reach (position_of old) (Domain labels ∷ []) = ap (λ (w : EncoderState). compressed_reach w labels) is ∙ sym reaches in
    record {
      ok = on_ok_weaker r (λ e. e ∙ ap (λ (w : EncoderState). append_compressed w labels) is ∙ sym app) ok;
      room = on_ok_weaker r (λ fits. omega (arith, fits, reach_is, bounds)) room;
      full = λ e. omega (arith, full e, reach_is, bounds);
      tries = λ e. tries e ∙ ap (λ (w : EncoderState). w.attempts) is ∙ sym (at (ltb old.limit (piece_reach (position_of old) (Domain labels))) (is_compressed (position_of old)) few);
      back = on_err_weaker r (λ b. let b' : CanRollBack next new = subst (λ (w : EncoderState). CanRollBack w new) is b in record { bytes = b'.bytes; within = b'.within; suffixes = b'.suffixes; attempts = omega (arith, b'.attempts); same = b'.same }) back;
    }
  where
    at : (over b : Bool) → b ≡ true → cond over (cond b (old.attempts + 1) old.attempts) (cond b (old.attempts + 1) old.attempts) ≡ old.attempts + 1
    at over false e = absurd (cc)
    at true true e = refl
    at false true e = refl

-- ---- a name in lower case has as many bytes

lower-each : (labels : List (List ℕ)) → AllByRecursion IsLabel (lower labels) → AllByRecursion IsLabel labels
lower-each [] all = tt
lower-each (l ∷ ls) all =
    let len = length-map l to_ascii_lowercase in
    (record { some = omega (arith, all.0.some); most = omega (arith, all.0.most) }, lower-each ls all.1)

name_len-lower : (labels : List (List ℕ)) → name_len (lower labels) ≡ name_len labels
name_len-lower [] = refl
name_len-lower (l ∷ ls) = omega (arith, length-map l to_ascii_lowercase, name_len-lower ls)

pub lower-are_labels : (labels : List (List ℕ)) → AreLabels (lower labels) → AreLabels labels
lower-are_labels labels are = record { each = lower-each labels are.each; fits = omega (arith, are.fits, name_len-lower labels) }
