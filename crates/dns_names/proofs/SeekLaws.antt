-- Seeking a pointer for the labels of a name, after they were written.
use Rattle.std.proofs.Common.{◌≡◌, ℕ, zero, suc, ◌+◌, ◌-◌, ◌<◌, ◌≤◌, get_or, List, [], ◌∷◌, ◌++◌, length, take, drop, Option, Some, None, refl, sym, ap, ◌∙◌, append_assoc, arith, length-append, add-one}
use Rattle.std.specs.Prelude.{slice_get, slice_range, is_some, if◌then◌else◌}
use Rattle.std.specs.Option.{option_map_or}
use Rattle.std.proofs.lemmas.List.{append-nil, take-append-le, drop_at, take_at, take_all, drop_all}
use Rattle.dns_wire.specs.Encoder.{Suffix, EncoderState, overwrite_at, put_at, place_of, remember, suffixes_before, trim_to_offset, CanRollBack, IsAtEnd}
use Rattle.dns_wire.specs.Name.{name_len}
use Rattle.dns_wire.specs.Encodable.{Position, position_of, append_pieces}
use Rattle.dns_wire.specs.Writing.{labels_form, compressed_form, remember_labels, pointer_form}
use Rattle.dns_wire.proofs.NameLaws.{length-labels_form}
use Rattle.dns_wire.proofs.SuffixLaws.{suffixes_before-before, suffixes_before-remember, AgreeBelow, remember-agree}
use Rattle.dns_names.specs.internal.Wire.{labels_pieces, append_compressed}
use Rattle.dns_names.proofs.EmitLaws.{form-labels, after-labels}
use Rattle.dns_names.proofs.WireLaws.{labels_form-split, front_le, front-next, len_after}

-- ---- label by label

some_same : {A : Type 0} {x y : A} → Some x ≡ Some y → x ≡ y
some_same e = cc

labels_form-next : (labels : List (List ℕ)) (i : ℕ) (label : List ℕ) → slice_get labels i ≡ Some label → labels_form (take (i + 1) labels) ≡ labels_form (take i labels) ++ (length label ∷ label)
labels_form-next labels i label e = rw add-one (go labels i label e)
  where
    go : (labels : List (List ℕ)) (i : ℕ) (label : List ℕ) → slice_get labels i ≡ Some label → labels_form (take (suc i) labels) ≡ labels_form (take i labels) ++ (length label ∷ label)
    go [] i label e = absurd (cc)
    go (l ∷ labels) zero label e = rw (some_same e) (ap (λ (xs : List ℕ). length label ∷ xs) (append-nil label))
    go (l ∷ labels) (suc i) label e = ap (λ (xs : List ℕ). length l ∷ (l ++ xs)) (go labels i label e) ∙ ap (λ (xs : List ℕ). length l ∷ xs) (sym (append_assoc l (labels_form (take i labels)) (length label ∷ label)))

drop-next : (labels : List (List ℕ)) (i : ℕ) (label : List ℕ) → slice_get labels i ≡ Some label → drop i labels ≡ label ∷ drop (i + 1) labels
drop-next labels i label e = rw add-one (go labels i label e)
  where
    go : (labels : List (List ℕ)) (i : ℕ) (label : List ℕ) → slice_get labels i ≡ Some label → drop i labels ≡ label ∷ drop (suc i) labels
    go [] i label e = absurd (cc)
    go (l ∷ labels) zero label e = ap (λ (x : List ℕ). x ∷ labels) (some_same e)
    go (l ∷ labels) (suc i) label e = go labels i label e

-- ---- seeking

-- only the buffer, the offset and the suffixes differ
abbrev pub IsAsBefore : EncoderState → EncoderState → Type 0
IsAsBefore old new = new ≡ record old { bytes = new.bytes; offset = new.offset; suffixes = new.suffixes }

changed : (old w new : EncoderState) (bytes : List ℕ) (offset : ℕ) (suffixes : List Suffix) → IsAsBefore old w → new ≡ record w { bytes = bytes; offset = offset; suffixes = suffixes } → IsAsBefore old new
changed old w new bytes offset suffixes same e =
    e ∙ ap (λ (v : EncoderState). record v { bytes = bytes; offset = offset; suffixes = suffixes }) same
    ∙ sym (ap (λ (v : EncoderState). record old { bytes = v.bytes; offset = v.offset; suffixes = v.suffixes }) e)

rolls_back : (old new : EncoderState) → IsAsBefore old new → new ≡ record old { bytes = new.bytes; offset = new.offset; suffixes = new.suffixes; attempts = new.attempts }
rolls_back old new same =
    same ∙ ap (λ (n : ℕ). record old { bytes = new.bytes; offset = new.offset; suffixes = new.suffixes; attempts = n }) (sym (ap (λ (v : EncoderState). v.attempts) same))

state_is : (old new : EncoderState) (bytes : List ℕ) (offset : ℕ) (suffixes : List Suffix) → IsAsBefore old new → new.bytes ≡ bytes → new.offset ≡ offset → new.suffixes ≡ suffixes
    → new ≡ record old { bytes = bytes; offset = offset; suffixes = suffixes }
state_is old new bytes offset suffixes same e f g =
    same ∙ ap (λ (x : List ℕ). record old { bytes = x; offset = new.offset; suffixes = new.suffixes }) e
    ∙ ap (λ (x : ℕ). record old { bytes = bytes; offset = x; suffixes = new.suffixes }) f
    ∙ ap (λ (x : List Suffix). record old { bytes = bytes; offset = offset; suffixes = x }) g

-- w is what old has become after all labels were written and those before i were sought for; label i begins at place
pub record Seeking (old w : EncoderState) (labels : List (List ℕ)) (i place : ℕ) : Type 0 where
  pub bytes : w.bytes ≡ old.bytes ++ labels_form labels
  pub offset : w.offset ≡ old.offset + length (labels_form labels)
  pub same : IsAsBefore old w
  pub place_is : place ≡ old.offset + length (labels_form (take i labels))
  pub agree : AgreeBelow (name_len (drop i labels)) old.suffixes w.suffixes
  pub remembers : remember_labels w.suffixes place (drop i labels) ≡ remember_labels old.suffixes old.offset labels
  pub same_suffixes : suffixes_before old.offset w.suffixes ≡ suffixes_before old.offset old.suffixes
  pub forms : labels_form (take i labels) ++ compressed_form old.suffixes (drop i labels) ≡ compressed_form old.suffixes labels

pub begins : (old w : EncoderState) (labels : List (List ℕ)) → IsAtEnd old → w ≡ append_pieces old (labels_pieces labels) → Seeking old w labels 0 old.offset
begins old w labels end e =
    let ends = after-labels (position_of old) labels in
    record {
      bytes = ap (λ (v : EncoderState). v.bytes) e ∙ ap (λ (xs : List ℕ). old.bytes ++ xs) (form-labels (position_of old) labels);
      offset = ap (λ (v : EncoderState). v.offset) e ∙ ap (λ (t : Position). t.place) ends;
      same = changed old old w _ _ _ refl (e ∙ ap (λ (n : ℕ). record (append_pieces old (labels_pieces labels)) { attempts = n }) (ap (λ (t : Position). t.attempts) ends));
      place_is = omega arith;
      agree = λ bytes lt. ap (λ (v : EncoderState). place_of v.suffixes bytes) e ∙ ap (λ (t : Position). place_of t.suffixes bytes) ends;
      remembers = ap (λ (v : EncoderState). remember_labels v.suffixes old.offset labels) e ∙ ap (λ (t : Position). remember_labels t.suffixes old.offset labels) ends;
      same_suffixes = ap (λ (v : EncoderState). suffixes_before old.offset v.suffixes) e ∙ ap (λ (t : Position). suffixes_before old.offset t.suffixes) ends;
      forms = refl;
    }

none_branch : (o : Option ℕ) (a b : List Suffix) → o ≡ None → (if is_some o then a else b) ≡ b
none_branch o a b e = ap (λ (p : Option ℕ). if is_some p then a else b) e

some_branch : (o : Option ℕ) (target : ℕ) (a b : List Suffix) → o ≡ Some target → (if is_some o then a else b) ≡ a
some_branch o target a b e = ap (λ (p : Option ℕ). if is_some p then a else b) e

-- at the end of the bytes nothing is written over
put_at-end : (bytes more : List ℕ) (place : ℕ) → place ≡ length bytes → put_at place more bytes ≡ bytes ++ more
put_at-end bytes more place e =
    let front : take place bytes ≡ bytes = take_all place bytes (omega arith) in
    let back : drop (place + length more) bytes ≡ [] = drop_all (place + length more) bytes (omega arith) in
    rw (front, back) (ap (λ (xs : List ℕ). bytes ++ xs) (append-nil more))

module _ {old w : EncoderState} {labels : List (List ℕ)} {i place : ℕ} (end : IsAtEnd old) (s : Seeking old w labels i place) where
  front_len : length (old.bytes ++ labels_form (take i labels)) ≡ place
  front_len = omega (arith, length-append old.bytes (labels_form (take i labels)), s.place_is, end)

  bytes_split : w.bytes ≡ (old.bytes ++ labels_form (take i labels)) ++ labels_form (drop i labels)
  bytes_split = s.bytes ∙ ap (λ (xs : List ℕ). old.bytes ++ xs) (labels_form-split i labels) ∙ sym (append_assoc old.bytes (labels_form (take i labels)) (labels_form (drop i labels)))

  -- what is sought is the labels that are left
  sought : slice_range w.bytes place w.offset ≡ labels_form (drop i labels)
  sought =
      let back : drop place w.bytes ≡ labels_form (drop i labels) = ap (drop place) bytes_split ∙ drop_at (old.bytes ++ labels_form (take i labels)) (labels_form (drop i labels)) place front_len in
      let len : length (labels_form (drop i labels)) ≤ w.offset - place = omega (arith, s.offset, s.place_is, ap length (labels_form-split i labels), length-append (labels_form (take i labels)) (labels_form (drop i labels))) in
      ap (take (w.offset - place)) back ∙ take_all (w.offset - place) (labels_form (drop i labels)) len

  pub place_within : place ≤ w.offset
  place_within = omega (arith, s.offset, s.place_is, front_le i labels)

  -- where the next label is in the name's own bytes
  own_place : place - old.offset ≡ length (labels_form (take i labels))
  own_place = omega (arith, s.place_is)

  pub len_here : i < length labels → get_or (labels_form labels) (place - old.offset) 0 ≡ length (get_or labels i [])
  len_here lt = ap (λ (n : ℕ). get_or (labels_form labels) n 0) own_place ∙ len_after labels i lt

  pub place_in : i < length labels → place - old.offset < length (labels_form labels)
  place_in lt = omega (arith, own_place, front-next labels i lt, front_le (i + 1) labels)

  pub at_end : w.offset ≡ length w.bytes
  at_end = omega (arith, s.offset, ap length s.bytes, length-append old.bytes (labels_form labels), end)

  -- what is given back, as long as no pointer was written
  pub takes_back : CanRollBack old w
  takes_back = record {
    bytes = ap (take old.offset) s.bytes ∙ take-append-le old.offset old.bytes (labels_form labels) (omega (arith, end));
    within = omega (arith, ap length s.bytes, length-append old.bytes (labels_form labels), end);
    suffixes = s.same_suffixes;
    attempts = omega (arith, ap (λ (v : EncoderState). v.attempts) s.same);
    same = rolls_back old w s.same;
  }

  -- and after the cut at which a pointer is to stand
  pub takes_back_trimmed : (cut : EncoderState) → cut ≡ trim_to_offset (record w { offset = place }) → CanRollBack old cut
  takes_back_trimmed cut e =
      let front : List ℕ = labels_form (take i labels) in
      let bytes : cut.bytes ≡ old.bytes ++ front = ap (λ (v : EncoderState). v.bytes) e ∙ ap (take place) bytes_split ∙ take_at (old.bytes ++ front) (labels_form (drop i labels)) place front_len in
      record {
        bytes = ap (take old.offset) bytes ∙ take-append-le old.offset old.bytes front (omega (arith, end));
        within = omega (arith, ap length bytes, length-append old.bytes front, end);
        suffixes = ap (λ (v : EncoderState). suffixes_before old.offset v.suffixes) e ∙ suffixes_before-before old.offset place w.suffixes (omega (arith, s.place_is)) ∙ s.same_suffixes;
        attempts = omega (arith, ap (λ (v : EncoderState). v.attempts) e, ap (λ (v : EncoderState). v.attempts) s.same);
        same = rolls_back old cut (changed old w cut _ _ _ s.same e);
      }

  pub place_next : (label : List ℕ) → slice_get labels i ≡ Some label → place + (length label + 1) ≤ w.offset
  place_next label found = omega (arith, s.offset, s.place_is, ap length (labels_form-next labels i label found), length-append (labels_form (take i labels)) (length label ∷ label), front_le (i + 1) labels)

  module _ (label : List ℕ) (found : slice_get labels i ≡ Some label) where
    abbrev rest : List (List ℕ)
    rest = drop (i + 1) labels

    abbrev left : List ℕ
    left = labels_form (label ∷ rest)

    rest_is : drop i labels ≡ label ∷ rest
    rest_is = drop-next labels i label found

    left_is : slice_range w.bytes place w.offset ≡ left
    left_is = sought ∙ ap labels_form rest_is

    agrees : AgreeBelow (name_len (label ∷ rest)) old.suffixes w.suffixes
    agrees = rw rest_is at s.agree

    -- they are remembered where they were before the name was begun
    here : place_of w.suffixes left ≡ place_of old.suffixes left
    here = agrees left (omega (arith, length-labels_form (label ∷ rest)))

    remembers : remember_labels w.suffixes place (label ∷ rest) ≡ remember_labels old.suffixes old.offset labels
    remembers = rw rest_is at s.remembers

    forms : labels_form (take i labels) ++ compressed_form old.suffixes (label ∷ rest) ≡ compressed_form old.suffixes labels
    forms = rw rest_is at s.forms

    -- the labels that are left are not remembered
    pub next : (w' : EncoderState) → place_of w.suffixes (slice_range w.bytes place w.offset) ≡ None → w' ≡ record w { suffixes = remember w.suffixes place (slice_range w.bytes place w.offset) } → Seeking old w' labels (i + 1) (place + (length label + 1))
    next w' none e =
        let gone : place_of w.suffixes left ≡ None = ap (place_of w.suffixes) (sym left_is) ∙ none in
        let never : place_of old.suffixes left ≡ None = sym here ∙ gone in
        let suffixes : w'.suffixes ≡ remember w.suffixes place left = ap (λ (v : EncoderState). v.suffixes) e ∙ ap (remember w.suffixes place) left_is in
        let longer = labels_form-next labels i label found in
        let whole : labels_form (take i labels) ++ (length label ∷ (label ++ compressed_form old.suffixes rest)) ≡ compressed_form old.suffixes labels =
        ap (λ (o : Option ℕ). labels_form (take i labels) ++ option_map_or pointer_form o (length label ∷ (label ++ compressed_form old.suffixes rest))) (sym never) ∙ forms in
        record {
          bytes = ap (λ (v : EncoderState). v.bytes) e ∙ s.bytes;
          offset = ap (λ (v : EncoderState). v.offset) e ∙ s.offset;
          same = changed old w w' _ _ _ s.same e;
          place_is = omega (arith, s.place_is, ap length longer, length-append (labels_form (take i labels)) (length label ∷ label));
          agree = rw suffixes (remember-agree (name_len rest) old.suffixes w.suffixes place left (omega (arith, length-labels_form (label ∷ rest))) (λ bytes lt. agrees bytes (omega arith)));
          remembers = rw suffixes (sym (none_branch (place_of w.suffixes left) (suffixes_before place w.suffixes) (remember_labels (remember w.suffixes place left) (place + (length label + 1)) rest) gone) ∙ remembers);
          same_suffixes = ap (suffixes_before old.offset) suffixes ∙ suffixes_before-remember old.offset place w.suffixes left (omega (arith, s.place_is)) ∙ s.same_suffixes;
          forms = ap (λ (xs : List ℕ). xs ++ compressed_form old.suffixes rest) longer ∙ append_assoc (labels_form (take i labels)) (length label ∷ label) (compressed_form old.suffixes rest) ∙ whole;
        }

    -- they are remembered at the target, and a pointer takes their place
    pub points : (cut new : EncoderState) (target : ℕ) → place_of w.suffixes (slice_range w.bytes place w.offset) ≡ Some target → cut ≡ trim_to_offset (record w { offset = place }) → new ≡ overwrite_at cut (pointer_form target) → new ≡ append_compressed old labels
    points cut new target at is_cut is =
        let front : List ℕ = labels_form (take i labels) in
        let pointer : List ℕ = pointer_form target in
        let there : place_of w.suffixes left ≡ Some target = ap (place_of w.suffixes) (sym left_is) ∙ at in
        let before_it : place_of old.suffixes left ≡ Some target = sym here ∙ there in
        let whole : front ++ pointer ≡ compressed_form old.suffixes labels =
        ap (λ (o : Option ℕ). front ++ option_map_or pointer_form o (length label ∷ (label ++ compressed_form old.suffixes rest))) (sym before_it) ∙ forms in
        let cut_bytes : cut.bytes ≡ old.bytes ++ front = ap (λ (v : EncoderState). v.bytes) is_cut ∙ ap (take place) bytes_split ∙ take_at (old.bytes ++ front) (labels_form (drop i labels)) place front_len in
        let cut_offset : cut.offset ≡ place = ap (λ (v : EncoderState). v.offset) is_cut in
        let bytes : put_at cut.offset pointer cut.bytes ≡ old.bytes ++ compressed_form old.suffixes labels =
        rw (cut_offset, cut_bytes) (put_at-end (old.bytes ++ front) pointer place (sym front_len)) ∙ append_assoc old.bytes front pointer ∙ ap (λ (xs : List ℕ). old.bytes ++ xs) whole in
        state_is old new (append_compressed old labels).bytes (append_compressed old labels).offset (append_compressed old labels).suffixes (changed old w new _ _ _ s.same (is ∙ ap (λ (v : EncoderState). overwrite_at v pointer) is_cut))
        (ap (λ (v : EncoderState). v.bytes) is ∙ bytes)
        (ap (λ (v : EncoderState). v.offset) is ∙ omega (arith, cut_offset, s.place_is, ap length whole, length-append front pointer))
        (ap (λ (v : EncoderState). v.suffixes) is ∙ ap (λ (v : EncoderState). v.suffixes) is_cut ∙ sym (some_branch (place_of w.suffixes left) target (suffixes_before place w.suffixes) (remember_labels (remember w.suffixes place left) (place + (length label + 1)) rest) there) ∙ remembers)

    -- the pointer ends where the compressed form does
    pub pointer_end : (target : ℕ) → place_of w.suffixes (slice_range w.bytes place w.offset) ≡ Some target → place + 2 ≡ old.offset + length (compressed_form old.suffixes labels)
    pointer_end target at =
        let cut : EncoderState = trim_to_offset (record w { offset = place }) in
        ap (λ (v : EncoderState). v.offset) (points cut (overwrite_at cut (pointer_form target)) target at refl refl)

  -- no label is left, and the closing zero is written
  pub finishes : (new : EncoderState) → length labels ≤ i → new ≡ overwrite_at w (0 ∷ []) → new ≡ append_compressed old labels
  finishes new past e =
      let none : drop i labels ≡ [] = drop_all i labels past in
      let all : take i labels ≡ labels = take_all i labels past in
      let form : labels_form labels ++ 0 ∷ [] ≡ compressed_form old.suffixes labels = rw (none, all) at s.forms in
      let suffixes : w.suffixes ≡ remember_labels old.suffixes old.offset labels = rw none at s.remembers in
      let bytes : put_at w.offset (0 ∷ []) w.bytes ≡ old.bytes ++ compressed_form old.suffixes labels =
      put_at-end w.bytes (0 ∷ []) w.offset at_end ∙ ap (λ (xs : List ℕ). xs ++ 0 ∷ []) s.bytes ∙ append_assoc old.bytes (labels_form labels) (0 ∷ []) ∙ ap (λ (xs : List ℕ). old.bytes ++ xs) form in
      state_is old new (append_compressed old labels).bytes (append_compressed old labels).offset (append_compressed old labels).suffixes (changed old w new _ _ _ s.same e)
      (ap (λ (v : EncoderState). v.bytes) e ∙ bytes)
      (ap (λ (v : EncoderState). v.offset) e ∙ omega (arith, s.offset, ap length form, length-append (labels_form labels) (0 ∷ [])))
      (ap (λ (v : EncoderState). v.suffixes) e ∙ suffixes)

  -- the closing zero ends where the compressed form does
  pub closing_end : length labels ≤ i → w.offset + 1 ≡ old.offset + length (compressed_form old.suffixes labels)
  closing_end past = ap (λ (v : EncoderState). v.offset) (finishes (overwrite_at w (0 ∷ [])) past refl)
