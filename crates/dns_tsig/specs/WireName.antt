-- Names in canonical form (RFC 4034 section 6.2).
use Rattle.std.specs.Prelude.{ℕ, ◌++◌, List, [], ◌∷◌, length, map, flat_map}
use Rattle.std.specs.Char.{to_ascii_lowercase}

-- the length of a label, and its bytes in lower case
abbrev pub canonical_label : List ℕ → List ℕ
canonical_label label = length label ∷ map to_ascii_lowercase label

-- the labels one after another, and the zero byte
abbrev pub canonical_name : List (List ℕ) → List ℕ
canonical_name labels = flat_map canonical_label labels ++ 0 ∷ []
