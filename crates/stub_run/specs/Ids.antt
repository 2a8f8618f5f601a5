-- Ids that are drawn for questions.
use Rattle.std.specs.Prelude.{◌≡◌, ◌==◌, false, List, [], ◌∷◌, ℕ}
use Rattle.std.specs.List.{AllByRecursion}

-- no id occurs twice
abbrev pub AreDistinct : List ℕ → Type 0
AreDistinct [] = Unit {0}
AreDistinct (id ∷ ids) = AllByRecursion (λ other. (id == other) ≡ false) ids × AreDistinct ids
