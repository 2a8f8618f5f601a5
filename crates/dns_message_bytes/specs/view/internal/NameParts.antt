-- The elements of a name, as they are read (RFC 1035 section 4.1.4).
use Rattle.std.specs.Prelude.{◌≡◌, ℕ, ◌+◌, length, Result, Ok, Err, MatchResult}
use Rattle.dns_wire.specs.declared.error.DecodeError.{DecodeError}
use Rattle.dns_wire.specs.Element as wire
use Rattle.dns_message_bytes.specs.declared.view.name_view.Part.{Part}
use Rattle.dns_message_bytes.specs.declared.view.name_view.Part.TheVariants.{Closing, Label, Pointer}

-- the element of the grammar
abbrev pub element_of : Part → wire.Element
element_of Closing = wire.Closing
element_of (Label bytes) = wire.Label bytes.now
element_of (Pointer target) = wire.Pointer target

-- how many bytes a part takes
abbrev pub part_len : Part → ℕ
part_len Closing = 1
part_len (Label bytes) = length bytes.now + 1
part_len (Pointer target) = 2

-- the part that is read is the element, or has the element's fault
abbrev pub MatchesElement : Result Part DecodeError → Result wire.Element DecodeError → Type 0
MatchesElement read element = MatchResult read (λ part. element ≡ Ok (element_of part)) (λ error. element ≡ Err error)
