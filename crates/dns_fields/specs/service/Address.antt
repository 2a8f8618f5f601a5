-- Addresses in text (RFC 4291 section 2.2).
use Rattle.std.specs.Prelude.{ℕ, ◌+◌, ◌-◌, ◌==◌, ◌&&◌, ◌||◌, not, nat_le, if◌then◌else◌, Bool, false, List, [], ◌∷◌, ◌++◌, length, replicate, take, drop, get_or, Option, Some, None, Result, Ok, Err}
use Rattle.hex.specs.Hex.{decode_of}
use Rattle.hex.specs.declared.error.FromHexError.{FromHexError}
use Rattle.dns_wire.specs.codes.Decimal.{decimal_up_to}
use Rattle.dns_fields.specs.service.Key.{has_leading_zero}
use Rattle.dns_fields.specs.declared.service.address.Part.{Part}
use Rattle.dns_fields.specs.declared.service.address.Part.TheVariants.{Decimal, Group}

-- ---- parts

-- the bytes of a part before those of the parts after it
abbrev pub joined : Option (List ℕ) → Option (List ℕ) → Option (List ℕ)
joined (Some bytes) (Some more) = Some (bytes ++ more)
joined _ _ = None

-- a number as one octet
abbrev pub one_octet : Option ℕ → Option (List ℕ)
one_octet None = None
one_octet (Some number) = Some (number ∷ [])

-- four hexadecimal digits, with zeros before those that are there
abbrev pub padded : List ℕ → Option (List ℕ)
padded (a ∷ []) = Some (48 ∷ 48 ∷ 48 ∷ a ∷ [])
padded (a ∷ b ∷ []) = Some (48 ∷ 48 ∷ a ∷ b ∷ [])
padded (a ∷ b ∷ c ∷ []) = Some (48 ∷ a ∷ b ∷ c ∷ [])
padded (a ∷ b ∷ c ∷ d ∷ []) = Some (a ∷ b ∷ c ∷ d ∷ [])
padded digits = None

-- the bytes of hexadecimal digits
abbrev pub hex_bytes : Result (List ℕ) FromHexError → Option (List ℕ)
hex_bytes (Ok bytes) = Some bytes
hex_bytes (Err error) = None

-- the bytes of four hexadecimal digits
abbrev pub group_bytes : Option (List ℕ) → Option (List ℕ)
group_bytes None = None
group_bytes (Some digits) = hex_bytes (decode_of digits)

-- a decimal number up to 255 without leading zeros, or one to four hexadecimal digits
abbrev pub part_bytes : Part → List ℕ → Option (List ℕ)
part_bytes Decimal part = if has_leading_zero part then None else one_octet (decimal_up_to 255 part)
part_bytes Group part = group_bytes (padded part)

-- what separates parts: a dot or a colon
abbrev pub separator : Part → ℕ
separator Decimal = 46
separator Group = 58

-- the bytes of parts, the first of which begins with `part`
abbrev pub parts_bytes : Part → List ℕ → List ℕ → Option (List ℕ)
parts_bytes kind part [] = part_bytes kind part
parts_bytes kind part (c ∷ cs) =
    if c == separator kind then joined (part_bytes kind part) (parts_bytes kind [] cs)
    else parts_bytes kind (part ++ c ∷ []) cs

-- the bytes, if there are as many as is said
abbrev pub sized : ℕ → Option (List ℕ) → Option (List ℕ)
sized len None = None
sized len (Some bytes) = if length bytes == len then Some bytes else None

-- ---- addresses

-- four decimal numbers, separated by dots
abbrev pub ipv4_bytes : List ℕ → Option (List ℕ)
ipv4_bytes text = sized 4 (parts_bytes Decimal [] text)

-- where the last group begins, in a text from a place on
abbrev pub last_group : ℕ → ℕ → List ℕ → ℕ
last_group start place [] = start
last_group start place (c ∷ cs) = last_group (if c == 58 then place + 1 else start) (place + 1) cs

-- whether a text has a dot
abbrev pub has_dot : List ℕ → Bool
has_dot [] = false
has_dot (c ∷ cs) = c == 46 || has_dot cs

-- groups, separated by colons, or none
abbrev pub groups_bytes : List ℕ → Option (List ℕ)
groups_bytes [] = Some []
groups_bytes (c ∷ cs) = parts_bytes Group [] (c ∷ cs)

-- groups, or an IPv4 address, which begins at a place
abbrev pub mixed_bytes : ℕ → List ℕ → Option (List ℕ)
mixed_bytes start text =
    if not (has_dot (drop start text)) then groups_bytes text
    else if start == 0 then ipv4_bytes text
    else joined (groups_bytes (take (start - 1) text)) (ipv4_bytes (drop start text))

-- groups, of which the last two may be an IPv4 address
abbrev pub tail_bytes : List ℕ → Option (List ℕ)
tail_bytes text = mixed_bytes (last_group 0 0 text) text

-- the place of the first `::`, in a text from a place on
abbrev pub elision : ℕ → List ℕ → Option ℕ
elision place [] = None
elision place (c ∷ cs) = if c == 58 && get_or cs 0 0 == 58 then Some place else elision (place + 1) cs

-- groups before and after one or more groups of zeros
abbrev pub elided : Option (List ℕ) → Option (List ℕ) → Option (List ℕ)
elided (Some head) (Some tail) =
    if nat_le (length head + length tail) 14 then Some (head ++ replicate (16 - (length head + length tail)) 0 ++ tail) else None
elided _ _ = None

-- an address whose `::` is at a place, if there is one
abbrev pub elided_at : Option ℕ → List ℕ → Option (List ℕ)
elided_at None text = sized 16 (tail_bytes text)
elided_at (Some place) text = elided (groups_bytes (take place text)) (tail_bytes (drop (place + 2) text))

-- eight groups, of which `::` stands for one or more of zero, and of which the last two may be an IPv4 address
abbrev pub ipv6_bytes : List ℕ → Option (List ℕ)
ipv6_bytes text = elided_at (elision 0 text) text
