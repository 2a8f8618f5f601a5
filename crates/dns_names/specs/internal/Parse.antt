-- How a partly parsed name is stored: its labels as they are encoded, and the bytes of the current label.
use Rattle.std.specs.Prelude.{ℕ, ◌+◌, ◌<◌, ◌≤◌, List, length, take, drop}
use Rattle.dns_names.specs.internal.Name.{labels_in, IsWire}
use Rattle.dns_names.specs.Parse as text

-- the current label begins at a place of the bytes
abbrev pub partial_name : ℕ → List ℕ → ℕ → text.PartialName
partial_name count bytes start = record { labels = labels_in count (take start bytes); label = drop start bytes }

-- the bytes before it encode labels, and it is short enough for a label
pub record IsPartial (count : ℕ) (bytes : List ℕ) (start : ℕ) : Type 0 where
  pub wire : IsWire count (take start bytes)
  pub within : start ≤ length bytes
  pub short : length bytes < start + 64
