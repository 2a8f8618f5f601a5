-- The encoding of names: uncompressed, or compressed by pointers to earlier names (RFC 1035 sections 3.1 and 4.1.4).
use Rattle.std.specs.Prelude.{◌≡◌, ℕ, ◌+◌, ◌<◌, ◌≤◌, Bool, true, false, if◌then◌else◌, List, [], ◌∷◌, ◌++◌, length, map, is_some, bit_or}
use Rattle.std.specs.Int.{w16, to_be_bytes}
use Rattle.std.specs.List.{AllByRecursion}
use Rattle.std.specs.Option.{option_map_or}
use Rattle.std.specs.Str.{str_to_ascii_lowercase}
use Rattle.dns_wire.specs.Encoder.{Suffix, place_of, remember, suffixes_before, suffix_offset_limit}
use Rattle.dns_wire.specs.Name.{name_len}
use Rattle.dns_wire.specs.Reading.{Reads}
use Rattle.dns_wire.specs.declared.name_encoding.NameEncoding.{NameEncoding}
use Rattle.dns_wire.specs.declared.name_encoding.NameEncoding.TheVariants.{Compressed, Uncompressed, UncompressedLowercase}

-- ---- uncompressed

-- labels, each preceded by its length
abbrev pub labels_form : List (List ℕ) → List ℕ
labels_form [] = []
labels_form (label ∷ labels) = length label ∷ (label ++ labels_form labels)

-- an uncompressed name: its labels, and the root's zero byte (RFC 1035 section 3.1)
abbrev pub whole_form : List (List ℕ) → List ℕ
whole_form labels = labels_form labels ++ 0 ∷ []

-- the labels that an encoding writes
abbrev pub spelling : NameEncoding → List (List ℕ) → List (List ℕ)
spelling Compressed labels = labels
spelling Uncompressed labels = labels
spelling UncompressedLowercase labels = map str_to_ascii_lowercase labels

-- whether an encoding compresses names
abbrev pub compresses : NameEncoding → Bool
compresses Compressed = true
compresses Uncompressed = false
compresses UncompressedLowercase = false

-- an encoding that never compresses names
abbrev pub IsWholeEncoding : NameEncoding → Type 0
IsWholeEncoding encoding = compresses encoding ≡ false

-- ---- compressed (RFC 1035 section 4.1.4)

-- a pointer: its offset in 14 bits, below two set bits
abbrev pub pointer_form : ℕ → List ℕ
pointer_form target = to_be_bytes w16 (bit_or 49152 target)

-- A compressed name: the first of its suffixes that is remembered is replaced by a pointer.
abbrev pub compressed_form : List Suffix → List (List ℕ) → List ℕ
compressed_form suffixes [] = 0 ∷ []
compressed_form suffixes (label ∷ labels) =
    option_map_or pointer_form (place_of suffixes (labels_form (label ∷ labels)))
    (length label ∷ (label ++ compressed_form suffixes labels))

-- The suffixes that are remembered after a name was written at a place: those of the name up to the one that a pointer
-- replaces are added.
abbrev pub remember_labels : List Suffix → ℕ → List (List ℕ) → List Suffix
remember_labels suffixes place [] = suffixes
remember_labels suffixes place (label ∷ labels) =
    if is_some (place_of suffixes (labels_form (label ∷ labels))) then suffixes_before place suffixes
    else remember_labels (remember suffixes place (labels_form (label ∷ labels))) (place + (length label + 1)) labels

-- ---- targets of pointers

-- A remembered suffix that a pointer can refer to: its labels are decoded at its offset, if they fit what is left of the
-- 255 bytes.
pub record IsPointerTarget (buffer : List ℕ) (suffix : Suffix) : Type 0 where
  pub labels : List (List ℕ)
  pub form : suffix.bytes ≡ labels_form labels
  pub within : suffix.start < length buffer
  pub near : suffix.start < suffix_offset_limit
  pub reads : (left : ℕ) → name_len labels ≤ left
      → (end : ℕ) × Reads buffer suffix.start suffix.start left labels end

-- each of the suffixes is one
abbrev pub ArePointerTargets : List ℕ → List Suffix → Type 0
ArePointerTargets buffer suffixes = AllByRecursion (IsPointerTarget buffer) suffixes
