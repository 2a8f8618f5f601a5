-- The elements of a name on the wire (RFC 1035 section 4.1.4).
use Rattle.std.specs.Prelude.{ℕ, ◌+◌, ◌-◌, ◌*◌, ◌==◌, nat_lt, if◌then◌else◌, List, [], ◌∷◌, length, take, drop, Result, Ok, Err}
use Rattle.dns_wire.specs.declared.error.DecodeError.{DecodeError}
use Rattle.dns_wire.specs.declared.error.DecodeError.TheVariants.{InsufficientBytes, UnrecognizedLabelCode}

-- the zero byte that ends a name, a label, or a pointer to an offset
pub data Element : Type 0 where
  Closing : Element
  Label : List ℕ → Element
  Pointer : ℕ → Element

-- a label of n bytes, from the bytes after its length
abbrev pub label_element : ℕ → List ℕ → Result Element DecodeError
label_element n bytes = if nat_lt (length bytes) n then Err InsufficientBytes else Ok (Label (take n bytes))

-- a pointer, from the high bits of its offset and the byte with the low bits
abbrev pub pointer_element : ℕ → List ℕ → Result Element DecodeError
pointer_element high [] = Err InsufficientBytes
pointer_element high (low ∷ bytes) = Ok (Pointer (256 * high + low))

-- The element at the front of the bytes. A first byte of 0 ends the name, 1 to 63 is the length of a label, 192 to 255
-- begins a pointer, and any other byte is refused.
abbrev pub element : List ℕ → Result Element DecodeError
element [] = Err InsufficientBytes
element (code ∷ bytes) =
    if code == 0 then Ok Closing
    else if nat_lt code 64 then label_element code bytes
    else if nat_lt code 192 then Err UnrecognizedLabelCode
    else pointer_element (code - 192) bytes

-- the element at a place of a buffer
abbrev pub element_at : List ℕ → ℕ → Result Element DecodeError
element_at buffer place = element (drop place buffer)
