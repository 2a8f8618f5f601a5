-- Sequences of items, written up to the first that does not fit.
use Rattle.std.specs.Prelude.{◌≡◌, ◌≢◌, ◌<◌, ◌⊎◌, ℕ, List, [], ◌∷◌, ◌++◌, length, nat_lt, if◌then◌else◌, Result, Err, IfOk, IfErr}
use Rattle.std.specs.Borrow.{Bor}
use Rattle.dns_wire.specs.Encoder.{EncoderState}
use Rattle.dns_wire.specs.declared.error.ProtoError.{ProtoError}
use Rattle.dns_wire.specs.declared.error.ProtoError.TheVariants.{Memory, NotAllRecordsWritten}
use Rattle.dns_wire.specs.Encodable.{Piece, Position, position_of, after, reach, attempts_at_limit, append_pieces, AreWritable}

-- the items before the first that would reach past the limit
abbrev pub fitting_prefix : {X : Type 0} → (X → Position → List Piece) → ℕ → Position → List X → List X
fitting_prefix pieces limit s [] = []
fitting_prefix pieces limit s (x ∷ xs) =
    if nat_lt limit (reach s (pieces x s)) then []
    else x ∷ fitting_prefix pieces limit (after s (pieces x s)) xs

-- the pieces of items, each item at the position after those before it
abbrev pub all_pieces : {X : Type 0} → (X → Position → List Piece) → Position → List X → List Piece
all_pieces pieces s [] = []
all_pieces pieces s (x ∷ xs) = pieces x s ++ all_pieces pieces (after s (pieces x s)) xs

-- How many names were tried. Those of the item that does not fit count too, up to its piece that does not fit.
abbrev pub attempts_after : {X : Type 0} → (X → Position → List Piece) → ℕ → Position → List X → ℕ
attempts_after pieces limit s [] = s.attempts
attempts_after pieces limit s (x ∷ xs) =
    if nat_lt limit (reach s (pieces x s)) then attempts_at_limit limit s (pieces x s)
    else attempts_after pieces limit (after s (pieces x s)) xs

-- ---- written by an encoder

-- the items that fit when they are written in a state
abbrev pub fitting_items : {X : Type 0} → (X → Position → List Piece) → EncoderState → List X → List X
fitting_items pieces w xs = fitting_prefix pieces w.limit (position_of w) xs

-- the pieces of the items that fit
abbrev pub fitting_pieces : {X : Type 0} → (X → Position → List Piece) → EncoderState → List X → List Piece
fitting_pieces pieces w xs = all_pieces pieces (position_of w) (fitting_items pieces w xs)

-- the state after writing the items that fit at the end
abbrev pub append_fitting : {X : Type 0} → (X → Position → List Piece) → EncoderState → List X → EncoderState
append_fitting pieces w xs = record (append_pieces w (fitting_pieces pieces w xs)) {
  attempts = attempts_after pieces w.limit (position_of w) xs;
}

-- Writing items at the end: those before the first that does not fit are written, and their number is returned if they
-- are all of the items, or reported in the error; or memory runs out.
pub record WritesFitting {X : Type 0} (pieces : X → Position → List Piece) (old : EncoderState) (xs : List X)
    (result : Result ℕ ProtoError) (new : EncoderState) : Type 0 where
  pub wrote : result ≢ Err Memory → new ≡ append_fitting pieces old xs
  pub writable : result ≢ Err Memory → AreWritable (fitting_pieces pieces old xs)
  pub all : IfOk result (λ n. (n ≡ length xs) × (fitting_items pieces old xs ≡ xs))
  pub not_all : IfErr result (λ error. (error ≡ Memory)
      ⊎ ((error ≡ NotAllRecordsWritten (length (fitting_items pieces old xs)))
      × (length (fitting_items pieces old xs) < length xs)))

-- the pieces of an item behind a reference
abbrev pub lent_pieces : {X : Type 0} → (X → Position → List Piece) → Bor X → Position → List Piece
lent_pieces pieces x s = pieces x.now s
