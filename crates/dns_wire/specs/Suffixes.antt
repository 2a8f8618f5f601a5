-- Remembered suffixes of names, the targets of compression pointers (RFC 1035 section 4.1.4).
use Rattle.std.specs.Prelude.{ℕ, if◌then◌else◌, List, [], ◌∷◌, nat_lt, filter, Option, Some, None}
use Rattle.std.specs.Str.{bytes_eq}

-- a suffix of a name that was written: its offset, and its labels in uncompressed form
pub record Suffix : Type 0 where
  pub start : ℕ
  pub bytes : List ℕ

-- the suffixes that begin before a place
abbrev pub suffixes_before : ℕ → List Suffix → List Suffix
suffixes_before place suffixes = filter (λ s. nat_lt s.start place) suffixes

-- the offset of the first suffix with these bytes
abbrev pub place_of : List Suffix → List ℕ → Option ℕ
place_of [] bytes = None
place_of (suffix ∷ suffixes) bytes =
    if bytes_eq suffix.bytes bytes then Some suffix.start else place_of suffixes bytes
