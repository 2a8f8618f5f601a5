-- Items one after another, up to the first that does not fit.
use Rattle.std.proofs.Common.{◌≡◌, ℕ, ◌+◌, ◌≤◌, Bool, true, false, cond, ltb, List, [], ◌∷◌, ◌++◌, length, Ok, Err, refl, sym, ap, subst, ◌∙◌, arith}
use Rattle.std.proofs.lemmas.Bool.{le-ltb}
use Rattle.dns_wire.specs.declared.error.EncodeError.{EncodeError}
use Rattle.dns_wire.specs.declared.error.EncodeError.TheVariants.{MaxBufferSizeExceeded}
use Rattle.dns_wire.specs.Encoder.{EncoderState, IsAtEnd, CanRollBack, trim_to_offset}
use Rattle.dns_wire.specs.Encodable.{Piece, Position, position_of, piece_next, piece_reach, after, reach, attempts_at_limit, append_pieces, Emits, AreWritable, AllBehind}
use Rattle.dns_wire.specs.Items.{fitting_prefix, all_pieces, attempts_after, fitting_items, fitting_pieces, append_fitting}
use Rattle.dns_wire.proofs.PieceLaws.{after-place, attempts-after, append_pieces-append, append_pieces-none, append_pieces-end, can_roll_back-append, can_roll_back-refl, can_roll_back-trans, next-attempts, pieces-behind, position_of-append_pieces, roll_back-restores, writable-append}

pub append_pieces-behind : (w : EncoderState) (ps : List Piece) → AllBehind (position_of w) → AllBehind (position_of (append_pieces w ps))
append_pieces-behind w ps behind = subst AllBehind (sym (position_of-append_pieces w ps)) (pieces-behind (position_of w) ps behind)

-- ---- rolling back

attempts_at_limit-more : (limit : ℕ) (s : Position) (ps : List Piece) → s.attempts ≤ attempts_at_limit limit s ps
attempts_at_limit-more limit s [] = omega arith
attempts_at_limit-more limit s (p ∷ ps) = at (ltb limit (piece_reach s p)) (attempts_at_limit-more limit (piece_next s p) ps)
  where
    at : (b : Bool) → (piece_next s p).attempts ≤ attempts_at_limit limit (piece_next s p) ps → s.attempts ≤ cond b (piece_next s p).attempts (attempts_at_limit limit (piece_next s p) ps)
    at true more = next-attempts s p
    at false more = omega (arith, more, next-attempts s p)

attempts_after-more : {X : Type 0} (pieces : X → Position → List Piece) (limit : ℕ) (s : Position) (xs : List X) → s.attempts ≤ attempts_after pieces limit s xs
attempts_after-more pieces limit s [] = omega arith
attempts_after-more pieces limit s (x ∷ xs) = at (ltb limit (reach s (pieces x s))) (attempts_after-more pieces limit (after s (pieces x s)) xs)
  where
    at : (b : Bool) → (after s (pieces x s)).attempts ≤ attempts_after pieces limit (after s (pieces x s)) xs → s.attempts ≤ cond b (attempts_at_limit limit s (pieces x s)) (attempts_after pieces limit (after s (pieces x s)) xs)
    at true more = attempts_at_limit-more limit s (pieces x s)
    at false more = omega (arith, more, attempts-after s (pieces x s))

-- items that are written up to the first that does not fit can be rolled back
pub can_roll_back-fitting : {X : Type 0} (pieces : X → Position → List Piece) (w : EncoderState) (xs : List X) → IsAtEnd w → CanRollBack w (append_fitting pieces w xs)
can_roll_back-fitting pieces w xs end =
    let back = can_roll_back-append w (fitting_pieces pieces w xs) end in
    record { bytes = back.bytes; within = back.within; suffixes = back.suffixes; attempts = attempts_after-more pieces w.limit (position_of w) xs; same = refl }

-- and so can what is refused after them
pub can_roll_back-past : {X : Type 0} (pieces : X → Position → List Piece) (w mid new : EncoderState) (xs : List X) → IsAtEnd w → mid ≡ append_fitting pieces w xs → CanRollBack mid new → CanRollBack w new
can_roll_back-past pieces w mid new xs end wrote back =
    can_roll_back-trans w (append_fitting pieces w xs) new (omega (arith, after-place (position_of w) (fitting_pieces pieces w xs))) (can_roll_back-fitting pieces w xs end) (subst (λ (v : EncoderState). CanRollBack v new) wrote back)

-- ---- items one after another

-- w is what old has become; what is still to come completes the items
pub record Underway {X : Type 0} (pieces : X → Position → List Piece) (old w : EncoderState) (items rest : List X) (count : ℕ) : Type 0 where
  pub at_end : IsAtEnd w
  pub behind : AllBehind (position_of w)
  pub on : old.offset ≤ w.offset
  pub back : CanRollBack old w
  pub counts : count + length (fitting_prefix pieces w.limit (position_of w) rest) ≡ length (fitting_prefix pieces old.limit (position_of old) items)
  pub leads : append_fitting pieces w rest ≡ append_fitting pieces old items
  pub writable : AreWritable (all_pieces pieces (position_of w) (fitting_prefix pieces w.limit (position_of w) rest)) → AreWritable (all_pieces pieces (position_of old) (fitting_prefix pieces old.limit (position_of old) items))

module _ {X : Type 0} (pieces : X → Position → List Piece) where
  pub all_begins : (w : EncoderState) (items : List X) → IsAtEnd w → AllBehind (position_of w) → Underway pieces w w items items 0
  all_begins w items end behind = record { at_end = end; behind = behind; on = omega arith; back = can_roll_back-refl w end; counts = omega arith; leads = refl; writable = λ h. h }

  pub all_goes_on : (old w w1 : EncoderState) (items rest : List X) (x : X) (count : ℕ) → Underway pieces old w items (x ∷ rest) count → Emits w (pieces x (position_of w)) (Ok tt) w1 → AreWritable (pieces x (position_of w)) → Underway pieces old w1 items rest (count + 1)
  all_goes_on old w w1 items rest x count u e is =
      let ps : List Piece = pieces x (position_of w) in
      let next : Position = position_of (append_pieces w ps) in
      let same : next ≡ after (position_of w) ps = position_of-append_pieces w ps in
      let fits : ltb w.limit (reach (position_of w) ps) ≡ false = le-ltb _ _ e.room in
      let left : List X = fitting_prefix pieces w.limit next rest in
      let keeps : fitting_prefix pieces w.limit (position_of w) (x ∷ rest) ≡ x ∷ left =
      ap (λ (b : Bool). cond b [] (x ∷ fitting_prefix pieces w.limit (after (position_of w) ps) rest)) fits ∙ ap (λ (t : Position). x ∷ fitting_prefix pieces w.limit t rest) (sym same) in
      let counted : attempts_after pieces w.limit (position_of w) (x ∷ rest) ≡ attempts_after pieces w.limit next rest =
      ap (λ (b : Bool). cond b (attempts_at_limit w.limit (position_of w) ps) (attempts_after pieces w.limit (after (position_of w) ps) rest)) fits ∙ ap (λ (t : Position). attempts_after pieces w.limit t rest) (sym same) in
      let joined : all_pieces pieces (position_of w) (x ∷ left) ≡ ps ++ all_pieces pieces next left = ap (λ (t : Position). ps ++ all_pieces pieces t left) (sym same) in
      let leads : append_fitting pieces (append_pieces w ps) rest ≡ append_fitting pieces w (x ∷ rest) =
      ap (λ (v : EncoderState). record v { attempts = attempts_after pieces w.limit next rest }) (append_pieces-append w ps (all_pieces pieces next left))
      ∙ ap (λ (qs : List Piece). record (append_pieces w qs) { attempts = attempts_after pieces w.limit next rest }) (sym joined)
      ∙ ap (λ (k : List X). record (append_pieces w (all_pieces pieces (position_of w) k)) { attempts = attempts_after pieces w.limit next rest }) (sym keeps)
      ∙ ap (λ (n : ℕ). record (append_pieces w (all_pieces pieces (position_of w) (fitting_prefix pieces w.limit (position_of w) (x ∷ rest)))) { attempts = n }) (sym counted) in
      let there : Underway pieces old (append_pieces w ps) items rest (count + 1) = record {
        at_end = append_pieces-end w ps u.at_end;
        behind = append_pieces-behind w ps u.behind;
        on = omega (arith, u.on, after-place (position_of w) ps);
        back = can_roll_back-trans old w (append_pieces w ps) u.on u.back (can_roll_back-append w ps u.at_end);
        counts = omega (arith, u.counts, ap length keeps);
        leads = leads ∙ u.leads;
        writable = λ h. u.writable (subst (λ (k : List X). AreWritable (all_pieces pieces (position_of w) k)) (sym keeps) (subst AreWritable (sym joined) (writable-append ps (all_pieces pieces next left) is h)));
      } in
      subst (λ (v : EncoderState). Underway pieces old v items rest (count + 1)) (sym e.ok) there

  pub all_stops : (old w w1 w2 : EncoderState) (items rest : List X) (x : X) (count : ℕ) → Underway pieces old w items (x ∷ rest) count → Emits w (pieces x (position_of w)) (Err MaxBufferSizeExceeded) w1 → w2 ≡ trim_to_offset (record w1 { offset = w.offset })
      → (count ≡ length (fitting_prefix pieces old.limit (position_of old) items)) × (w2 ≡ append_fitting pieces old items) × AreWritable (all_pieces pieces (position_of old) (fitting_prefix pieces old.limit (position_of old) items)) × IsAtEnd w2 × AllBehind (position_of w2)
  all_stops old w w1 w2 items rest x count u e is =
      let ps : List Piece = pieces x (position_of w) in
      let next : Position = after (position_of w) ps in
      let over : ltb w.limit (reach (position_of w) ps) ≡ true = let full = e.full refl in grind arith in
      let keeps : fitting_prefix pieces w.limit (position_of w) (x ∷ rest) ≡ [] = ap (λ (b : Bool). cond b [] (x ∷ fitting_prefix pieces w.limit next rest)) over in
      let counted : attempts_after pieces w.limit (position_of w) (x ∷ rest) ≡ attempts_at_limit w.limit (position_of w) ps = ap (λ (b : Bool). cond b (attempts_at_limit w.limit (position_of w) ps) (attempts_after pieces w.limit next rest)) over in
      let back : w2 ≡ record w { attempts = w1.attempts } = is ∙ roll_back-restores w w1 u.at_end u.behind e.back in
      let leads : record w { attempts = w1.attempts } ≡ append_fitting pieces w (x ∷ rest) =
      ap (λ (n : ℕ). record w { attempts = n }) (e.tries refl ∙ sym counted)
      ∙ ap (λ (v : EncoderState). record v { attempts = attempts_after pieces w.limit (position_of w) (x ∷ rest) }) (sym (append_pieces-none w))
      ∙ ap (λ (k : List X). record (append_pieces w (all_pieces pieces (position_of w) k)) { attempts = attempts_after pieces w.limit (position_of w) (x ∷ rest) }) (sym keeps) in
      (omega (arith, u.counts, ap length keeps), back ∙ leads ∙ u.leads, u.writable (subst (λ (k : List X). AreWritable (all_pieces pieces (position_of w) k)) (sym keeps) tt), subst IsAtEnd (sym back) u.at_end, subst (λ (v : EncoderState). AllBehind (position_of v)) (sym back) u.behind)

  pub all_ends : (old w : EncoderState) (items : List X) (count : ℕ) → Underway pieces old w items [] count
      → (count ≡ length (fitting_prefix pieces old.limit (position_of old) items)) × (w ≡ append_fitting pieces old items) × AreWritable (all_pieces pieces (position_of old) (fitting_prefix pieces old.limit (position_of old) items))
  all_ends old w items count u =
      (omega (arith, u.counts), sym (ap (λ (v : EncoderState). record v { attempts = w.attempts }) (append_pieces-none w)) ∙ u.leads, u.writable tt)

  pub all_refused : (old w w1 : EncoderState) (items rest : List X) (ps : List Piece) (count : ℕ) (error : EncodeError) → Underway pieces old w items rest count → Emits w ps (Err error) w1 → CanRollBack old w1
  all_refused old w w1 items rest ps count error u e = can_roll_back-trans old w w1 u.on u.back e.back

  -- the items that are kept are a front of them, and all of them where they are as many
  pub fitting_prefix-le : (limit : ℕ) (s : Position) (items : List X) → length (fitting_prefix pieces limit s items) ≤ length items
  fitting_prefix-le limit s [] = omega arith
  fitting_prefix-le limit s (x ∷ xs) = at (ltb limit (reach s (pieces x s))) (fitting_prefix-le limit (after s (pieces x s)) xs)
    where
      at : (b : Bool) → length (fitting_prefix pieces limit (after s (pieces x s)) xs) ≤ length xs → length (cond b [] (x ∷ fitting_prefix pieces limit (after s (pieces x s)) xs)) ≤ length (x ∷ xs)
      at true more = omega arith
      at false more = omega (arith, more)

  pub fitting_prefix-all : (limit : ℕ) (s : Position) (items : List X) → length items ≤ length (fitting_prefix pieces limit s items) → fitting_prefix pieces limit s items ≡ items
  fitting_prefix-all limit s [] all = refl
  fitting_prefix-all limit s (x ∷ xs) all = at (ltb limit (reach s (pieces x s))) all (λ more. fitting_prefix-all limit (after s (pieces x s)) xs more)
    where
      at : (b : Bool) → length (x ∷ xs) ≤ length (cond b [] (x ∷ fitting_prefix pieces limit (after s (pieces x s)) xs)) → (length xs ≤ length (fitting_prefix pieces limit (after s (pieces x s)) xs) → fitting_prefix pieces limit (after s (pieces x s)) xs ≡ xs)
          → cond b [] (x ∷ fitting_prefix pieces limit (after s (pieces x s)) xs) ≡ x ∷ xs
      at true all more = absurd (omega arith)
      at false all more = ap (λ (ys : List X). x ∷ ys) (more (omega arith))

  -- ---- one item

  one-fits : (w : EncoderState) (x : X) → 1 ≡ length (fitting_items pieces w (x ∷ [])) → fitting_items pieces w (x ∷ []) ≡ x ∷ []
  one-fits w x is = fitting_prefix-all w.limit (position_of w) (x ∷ []) (omega (arith, is))

  none-fits : {Y : Type 0} (ys : List Y) → 0 ≡ length ys → ys ≡ []
  none-fits [] is = refl
  none-fits (y ∷ ys) is = absurd (omega arith)

  pub one_written : (w w1 : EncoderState) (x : X) → IsAtEnd w → AllBehind (position_of w) → Emits w (pieces x (position_of w)) (Ok tt) w1 → AreWritable (pieces x (position_of w))
      → (fitting_items pieces w (x ∷ []) ≡ x ∷ []) × (w1 ≡ append_fitting pieces w (x ∷ [])) × AreWritable (fitting_pieces pieces w (x ∷ [])) × IsAtEnd w1 × AllBehind (position_of w1)
  one_written w w1 x end behind e is =
      let u = all_goes_on w w w1 (x ∷ []) [] x 0 (all_begins w (x ∷ []) end behind) e is in
      let done = all_ends w w1 (x ∷ []) 1 u in
      (one-fits w x done.0, done.1, done.2, u.at_end, u.behind)

  pub one_dropped : (w w1 w2 : EncoderState) (x : X) → IsAtEnd w → AllBehind (position_of w) → Emits w (pieces x (position_of w)) (Err MaxBufferSizeExceeded) w1 → w2 ≡ trim_to_offset (record w1 { offset = w.offset })
      → (fitting_items pieces w (x ∷ []) ≡ []) × (w2 ≡ append_fitting pieces w (x ∷ [])) × AreWritable (fitting_pieces pieces w (x ∷ [])) × IsAtEnd w2 × AllBehind (position_of w2)
  one_dropped w w1 w2 x end behind e cut =
      let done = all_stops w w w1 w2 (x ∷ []) [] x 0 (all_begins w (x ∷ []) end behind) e cut in
      (none-fits (fitting_items pieces w (x ∷ [])) done.0, done.1, done.2, done.3, done.4)
