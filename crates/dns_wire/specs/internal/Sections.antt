-- What a section of a message is written as, up to its first item that does not fit.
use Rattle.std.specs.Prelude.{ℕ, List}
use Rattle.dns_wire.specs.Encodable.{Piece, Position, form, after}
use Rattle.dns_wire.specs.Items.{fitting_prefix, all_pieces, attempts_after}

-- the encoding of the items that fit
abbrev pub fitting_form : {X : Type 0} → (X → Position → List Piece) → ℕ → Position → List X → List ℕ
fitting_form pieces limit s xs = form s (all_pieces pieces s (fitting_prefix pieces limit s xs))

-- The position after the items that fit. The names of the item that was dropped count as tried, and none of its suffixes
-- is remembered.
abbrev pub position_behind : {X : Type 0} → (X → Position → List Piece) → ℕ → Position → List X → Position
position_behind pieces limit s xs =
    record (after s (all_pieces pieces s (fitting_prefix pieces limit s xs))) {
      attempts = attempts_after pieces limit s xs;
    }
