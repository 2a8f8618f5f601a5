-- Borrowed items are written like those that they borrow.
use Rattle.std.proofs.Common.{◌≡◌, ◌∙◌, ℕ, Bool, true, false, cond, ltb, List, [], ◌∷◌, ◌++◌, map, length, refl, sym, ap, Result, Ok, Err}
use Rattle.std.specs.Prelude.{IfOk}
use Rattle.std.proofs.lemmas.List.{length-map}
use Rattle.dns_wire.specs.Encoder.{EncoderState}
use Rattle.dns_wire.specs.Encodable.{Piece, Position, position_of, after, reach, attempts_at_limit, append_pieces}
use Rattle.dns_wire.specs.Items.{fitting_prefix, all_pieces, attempts_after, fitting_items, fitting_pieces, append_fitting}

pub if_ok : {T E : Type 0} (P Q : T → Type 0) (r : Result T E) → ((x : T) → P x → Q x) → IfOk r P → IfOk r Q
if_ok P Q (Ok x) f h = f x h
if_ok P Q (Err e) f h = tt

module _ {X Y : Type 0} (pieces : X → Position → List Piece) (g : Y → X) where
  abbrev pub borrowed : Y → Position → List Piece
  borrowed y s = pieces (g y) s

  prefix-map : (limit : ℕ) (s : Position) (ys : List Y) → map g (fitting_prefix borrowed limit s ys) ≡ fitting_prefix pieces limit s (map g ys)
  prefix-map limit s [] = refl
  prefix-map limit s (y ∷ ys) = at (ltb limit (reach s (borrowed y s))) (prefix-map limit (after s (borrowed y s)) ys)
    where
      at : (b : Bool) → map g (fitting_prefix borrowed limit (after s (borrowed y s)) ys) ≡ fitting_prefix pieces limit (after s (borrowed y s)) (map g ys)
          → map g (cond b [] (y ∷ fitting_prefix borrowed limit (after s (borrowed y s)) ys)) ≡ cond b [] (g y ∷ fitting_prefix pieces limit (after s (borrowed y s)) (map g ys))
      at true e = refl
      at false e = ap (λ (l : List X). g y ∷ l) e

  pieces-map : (s : Position) (ys : List Y) → all_pieces borrowed s ys ≡ all_pieces pieces s (map g ys)
  pieces-map s [] = refl
  pieces-map s (y ∷ ys) = ap (λ (l : List Piece). borrowed y s ++ l) (pieces-map (after s (borrowed y s)) ys)

  attempts-map : (limit : ℕ) (s : Position) (ys : List Y) → attempts_after borrowed limit s ys ≡ attempts_after pieces limit s (map g ys)
  attempts-map limit s [] = refl
  attempts-map limit s (y ∷ ys) =
      ap (λ (n : ℕ). cond (ltb limit (reach s (borrowed y s))) (attempts_at_limit limit s (borrowed y s)) n) (attempts-map limit (after s (borrowed y s)) ys)

  pub count-map : (w : EncoderState) (ys : List Y) (n : ℕ) → n ≡ length (fitting_items borrowed w ys) → n ≡ length (fitting_items pieces w (map g ys))
  count-map w ys n e =
      e ∙ sym (length-map (fitting_items borrowed w ys) g) ∙ ap length (prefix-map w.limit (position_of w) ys)

  pub fitting-map : (w : EncoderState) (ys : List Y) → fitting_pieces borrowed w ys ≡ fitting_pieces pieces w (map g ys)
  fitting-map w ys = pieces-map (position_of w) (fitting_items borrowed w ys) ∙ ap (all_pieces pieces (position_of w)) (prefix-map w.limit (position_of w) ys)

  pub append-map : (w : EncoderState) (ys : List Y) → append_fitting borrowed w ys ≡ append_fitting pieces w (map g ys)
  append-map w ys =
      ap (λ (ps : List Piece). record (append_pieces w ps) { attempts = attempts_after borrowed w.limit (position_of w) ys }) (fitting-map w ys)
      ∙ ap (λ (n : ℕ). record (append_pieces w (fitting_pieces pieces w (map g ys))) { attempts = n }) (attempts-map w.limit (position_of w) ys)
