-- Sections that are written from borrowed rows, record by record.
use Rattle.std.proofs.Common.{◌≡◌, ℕ, ◌+◌, Bool, true, false, cond, ltb, List, [], ◌∷◌, length, ◌≤◌, Ok, refl, sym, ap, subst, ◌∙◌, arith}
use Rattle.std.proofs.lemmas.Bool.{ltb-false}
use Rattle.std.proofs.lemmas.List.{append-nil}
use Rattle.dns_wire.specs.Encoder.{EncoderState}
use Rattle.dns_wire.specs.Encodable.{Piece, Position, position_of, after, reach, attempts_at_limit, append_pieces, Emits, AreWritable}
use Rattle.dns_wire.specs.Items.{fitting_prefix, all_pieces, attempts_after, fitting_items, fitting_pieces, append_fitting}
use Rattle.dns_wire.proofs.ItemLaws.{Underway, all_goes_on, fitting_prefix-le}
use Rattle.dns_records.specs.Record.{Record}
use Rattle.dns_messages.specs.Cut.{record_item}
use Rattle.dns_zone.specs.Section.{section_records}
use Rattle.dns_zone.specs.declared.zone.section.Section.{Section}

-- the items are `g` of what is borrowed
module _ {X Y : Type 0} (pieces : X → Position → List Piece) (g : Y → X) where
  abbrev lent : Y → Position → List Piece
  lent y s = pieces (g y) s

  abbrev is_over : EncoderState → Y → Bool
  is_over w y = ltb w.limit (reach (position_of w) (lent y (position_of w)))

  fits : (b : Bool) (y : Y) → cond b [] (y ∷ []) ≡ y ∷ [] → b ≡ false
  fits true y e = absurd (cc)
  fits false y e = refl

  over : (b : Bool) (y : Y) → cond b [] (y ∷ []) ≡ [] → b ≡ true
  over true y e = refl
  over false y e = absurd (cc)

  -- the state after an item that fits or not
  abbrev state_by : EncoderState → Y → Bool → EncoderState
  state_by w y b = record (append_pieces w (all_pieces lent (position_of w) (cond b [] (y ∷ [])))) {
    attempts = cond b (attempts_at_limit w.limit (position_of w) (lent y (position_of w))) (after (position_of w) (lent y (position_of w))).attempts;
  }

  emitted : (w w1 : EncoderState) (y : Y) → is_over w y ≡ false → w1 ≡ append_fitting lent w (y ∷ []) → Emits w (lent y (position_of w)) (Ok tt) w1
  emitted w w1 y is_in wrote =
      let ps : List Piece = lent y (position_of w) in
      let within = ltb-false w.limit (reach (position_of w) ps) is_in in
      record {
        ok = wrote ∙ ap (state_by w y) is_in ∙ ap (λ (qs : List Piece). record (append_pieces w qs) { attempts = (after (position_of w) ps).attempts }) (append-nil ps);
        room = omega (arith, within);
        full = λ e. absurd (cc);
        tries = λ e. absurd (cc);
        back = tt;
      }

  pub one_more : (old w w1 : EncoderState) (items rest : List X) (y : Y) (count : ℕ) → Underway pieces old w items (g y ∷ rest) count → fitting_items lent w (y ∷ []) ≡ y ∷ [] → w1 ≡ append_fitting lent w (y ∷ [])
      → AreWritable (fitting_pieces lent w (y ∷ [])) → Underway pieces old w1 items rest (count + 1)
  one_more old w w1 items rest y count u all wrote is =
      let ps : List Piece = lent y (position_of w) in
      let is_in : is_over w y ≡ false = fits (is_over w y) y all in
      let writable : AreWritable ps = subst AreWritable (append-nil ps) (subst (λ (b : Bool). AreWritable (all_pieces lent (position_of w) (cond b [] (y ∷ [])))) is_in is) in
      all_goes_on pieces old w w1 items rest (g y) count u (emitted w w1 y is_in wrote) writable

  pub none_more : (old w w1 : EncoderState) (items rest : List X) (y : Y) (count : ℕ) → Underway pieces old w items (g y ∷ rest) count → fitting_items lent w (y ∷ []) ≡ [] → w1 ≡ append_fitting lent w (y ∷ [])
      → (count ≡ length (fitting_items pieces old items)) × (w1 ≡ append_fitting pieces old items) × AreWritable (fitting_pieces pieces old items)
  none_more old w w1 items rest y count u none wrote =
      let ps : List Piece = lent y (position_of w) in
      let next : Position = after (position_of w) ps in
      let is_out : is_over w y ≡ true = over (is_over w y) y none in
      let keeps : fitting_prefix pieces w.limit (position_of w) (g y ∷ rest) ≡ [] = ap (λ (b : Bool). cond b [] (g y ∷ fitting_prefix pieces w.limit next rest)) is_out in
      let here : w1 ≡ append_fitting pieces w (g y ∷ rest) =
      wrote ∙ ap (state_by w y) is_out
      ∙ sym (ap (λ (b : Bool). record (append_pieces w (all_pieces pieces (position_of w) (cond b [] (g y ∷ fitting_prefix pieces w.limit next rest)))) { attempts = cond b (attempts_at_limit w.limit (position_of w) ps) (attempts_after pieces w.limit next rest) }) is_out) in
      (omega (arith, u.counts, ap length keeps), here ∙ u.leads, u.writable (subst (λ (k : List X). AreWritable (all_pieces pieces (position_of w) k)) (sym keeps) tt))

-- ---- the records of a section, one after another

abbrev pub WritesSection : EncoderState → EncoderState → Section → List Record → ℕ → Type 0
WritesSection old w s rest count = Underway record_item old w (section_records s) rest count

-- how many records a section has, and how many were written
pub count_below : (old w : EncoderState) (s : Section) (rest : List Record) (count : ℕ) → WritesSection old w s rest count → count ≤ length (section_records s)
count_below old w s rest count u = omega (arith, u.counts, fitting_prefix-le record_item old.limit (position_of old) (section_records s))
