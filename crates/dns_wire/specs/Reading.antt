-- Decoding a name at a place of a buffer (RFC 1035 section 4.1.4).
use Rattle.std.specs.Prelude.{◌≡◌, ℕ, ◌+◌, ◌-◌, ◌<◌, ◌≤◌, List, [], ◌∷◌, length, Ok, Err}
use Rattle.dns_wire.specs.Name.{max_name_len}
use Rattle.dns_wire.specs.Element.{Closing, Label, Pointer, element_at}
use Rattle.dns_wire.specs.declared.error.DecodeError.{DecodeError}
use Rattle.dns_wire.specs.declared.error.DecodeError.TheVariants.{PointerNotPriorToLabel, DomainNameTooLong}

-- Reads buffer place segment left labels end: these labels are decoded from the place on, in a segment of labels that
-- begins at segment, with left of the 255 bytes unused, and the bytes at the place end at end.
--
-- The zero byte ends a name. A label precedes the rest of the name, and leaves room for the zero byte. A pointer refers to
-- the rest of the name, strictly before its segment, where a new segment begins.
pub data Reads (buffer : List ℕ) : ℕ → ℕ → ℕ → List (List ℕ) → ℕ → Type 0 where
  at_closing : {place segment left : ℕ} → element_at buffer place ≡ Ok Closing
      → Reads buffer place segment left [] (place + 1)
  at_label : {place segment left end : ℕ} {label : List ℕ} {labels : List (List ℕ)}
      → element_at buffer place ≡ Ok (Label label) → length label + 1 < left
      → Reads buffer (place + (length label + 1)) segment (left - (length label + 1)) labels end
      → Reads buffer place segment left (label ∷ labels) end
  at_pointer : {place segment left target end : ℕ} {labels : List (List ℕ)}
      → element_at buffer place ≡ Ok (Pointer target) → target < segment → Reads buffer target target left labels end
      → Reads buffer place segment left labels (place + 2)

-- The first fault that decoding meets.
pub data Refuses (buffer : List ℕ) : ℕ → ℕ → ℕ → DecodeError → Type 0 where
  at_fault : {place segment left : ℕ} {error : DecodeError} → element_at buffer place ≡ Err error
      → Refuses buffer place segment left error
  at_long_name : {place segment left : ℕ} {label : List ℕ} → element_at buffer place ≡ Ok (Label label)
      → left ≤ length label + 1 → Refuses buffer place segment left DomainNameTooLong
  at_forward_pointer : {place segment left target : ℕ} → element_at buffer place ≡ Ok (Pointer target)
      → segment ≤ target → Refuses buffer place segment left PointerNotPriorToLabel
  past_label : {place segment left : ℕ} {error : DecodeError} {label : List ℕ}
      → element_at buffer place ≡ Ok (Label label) → length label + 1 < left
      → Refuses buffer (place + (length label + 1)) segment (left - (length label + 1)) error
      → Refuses buffer place segment left error
  past_pointer : {place segment left target : ℕ} {error : DecodeError} → element_at buffer place ≡ Ok (Pointer target)
      → target < segment → Refuses buffer target target left error
      → Refuses buffer place segment left error

-- a name at a place: its first segment begins there, and all 255 bytes are unused
abbrev pub ReadsName : List ℕ → ℕ → List (List ℕ) → ℕ → Type 0
ReadsName buffer place labels end = Reads buffer place place max_name_len labels end

-- a name at a place is refused
abbrev pub RefusesName : List ℕ → ℕ → DecodeError → Type 0
RefusesName buffer place error = Refuses buffer place place max_name_len error
