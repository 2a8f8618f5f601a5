-- How a name without compression pointers is stored, and how far it was read.
use Rattle.std.specs.Prelude.{◌≡◌, ℕ, ◌+◌, List, ◌++◌, length}
use Rattle.dns_wire.specs.Decoder.{Decoder, rest}
use Rattle.dns_wire.specs.Name.{AreLabels, name_len}
use Rattle.dns_wire.specs.Writing.{whole_form}
use Rattle.dns_names.specs.internal.Name.{labels_in}

-- the bytes are the encoding of a name with so many labels
pub record IsWhole (count : ℕ) (bytes : List ℕ) : Type 0 where
  pub form : bytes ≡ whole_form (labels_in count bytes)
  pub many : length (labels_in count bytes) ≡ count
  pub are : AreLabels (labels_in count bytes)

-- the labels of a name and the root's zero byte are read, so many labels
pub record PassesLabels (old : Decoder) (count : ℕ) (new : Decoder) : Type 0 where
  pub labels : List (List ℕ)
  pub read : rest old ≡ whole_form labels ++ rest new
  pub many : length labels ≡ count
  pub are : AreLabels labels
  pub index : new.index ≡ old.index + name_len labels
