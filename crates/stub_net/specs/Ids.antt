-- Ids of a list.
use Rattle.std.specs.Prelude.{◌≡◌, List, [], ◌∷◌, ℕ, Option, Some, None}

-- the first id of a list is drawn, or none if there is none
abbrev pub DrawsFirst : List ℕ → Option ℕ → List ℕ → Type 0
DrawsFirst [] id rest = (id ≡ None) × (rest ≡ [])
DrawsFirst (first ∷ others) id rest = (id ≡ Some first) × (rest ≡ others)
