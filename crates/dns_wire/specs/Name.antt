-- How long labels and names may be (RFC 1035 section 2.3.4).
use Rattle.std.specs.Prelude.{ℕ, ◌+◌, ◌<◌, ◌≤◌, List, [], ◌∷◌, length}
use Rattle.std.specs.List.{AllByRecursion}

-- the maximum length of a name, in bytes of its uncompressed form
abbrev pub max_name_len : ℕ
max_name_len = 255

-- a label has 1 to 63 bytes
pub record IsLabel (label : List ℕ) : Type 0 where
  pub some : 0 < length label
  pub most : length label < 64

-- the length of a name's uncompressed form: a length byte before each label, and the root's zero byte
abbrev pub name_len : List (List ℕ) → ℕ
name_len [] = 1
name_len (label ∷ labels) = (length label + 1) + name_len labels

-- the labels of a name, which takes at most 255 bytes
pub record AreLabels (labels : List (List ℕ)) : Type 0 where
  pub each : AllByRecursion IsLabel labels
  pub fits : name_len labels ≤ max_name_len
