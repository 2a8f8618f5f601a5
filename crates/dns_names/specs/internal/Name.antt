-- How a `Name` stores its labels: as they are encoded, each after its length (RFC 1035 section 3.1).
use Rattle.std.specs.Prelude.{◌≡◌, ◌<◌, ℕ, zero, suc, List, [], ◌∷◌, length, take, drop, slice_index}
use Rattle.std.specs.List.{AllByRecursion}
use Rattle.dns_wire.specs.Name.{IsLabel, AreLabels}
use Rattle.dns_wire.specs.Writing.{labels_form}

-- so many labels from the front of the bytes
abbrev pub labels_in : ℕ → List ℕ → List (List ℕ)
labels_in zero bytes = []
labels_in (suc count) [] = []
labels_in (suc count) (len ∷ bytes) = take len bytes ∷ labels_in count (drop len bytes)

-- the bytes encode so many labels
pub record IsRun (count : ℕ) (bytes : List ℕ) : Type 0 where
  pub form : bytes ≡ labels_form (labels_in count bytes)
  pub many : length (labels_in count bytes) ≡ count
  pub each : AllByRecursion IsLabel (labels_in count bytes)

-- the bytes encode so many labels of a name
pub record IsWire (count : ℕ) (bytes : List ℕ) : Type 0 where
  pub form : bytes ≡ labels_form (labels_in count bytes)
  pub many : length (labels_in count bytes) ≡ count
  pub are : AreLabels (labels_in count bytes)

-- the offset at which each label is encoded
abbrev pub AreOffsets : List (List ℕ) → List ℕ → Type 0
AreOffsets labels offsets = (i : ℕ) → i < length labels → slice_index offsets i ≡ length (labels_form (take i labels))
