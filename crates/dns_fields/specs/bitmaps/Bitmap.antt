-- Sets of record types as bitmaps (RFC 4034 section 4.1.2).
use Rattle.std.specs.Prelude.{◌≡◌, ◌<◌, ℕ, zero, suc, ◌+◌, ◌-◌, ◌*◌, ◌/◌, ◌%◌, max, ◌==◌, ◌&&◌, ◌||◌, not, nat_le, nat_lt, if◌then◌else◌, Bool, true, false, List, [], ◌∷◌, ◌++◌, length, get_or, flat_map, Option, Some, None}
use Rattle.dns_fields.specs.bitmaps.TypeWord.{word_of_type}

-- the weights of the bits of an octet: the first bit is the most significant (RFC 1035 section 2.3.2)
abbrev pub weights : List ℕ
weights = 128 ∷ 64 ∷ 32 ∷ 16 ∷ 8 ∷ 4 ∷ 2 ∷ 1 ∷ []

-- ---- the bitmap of a set

-- whether a type is among others
abbrev pub has_type : List ℕ → ℕ → Bool
has_type [] number = false
has_type (other ∷ types) number = other == number || has_type types number

-- the table says which of the 256 types from a number on are among others
abbrev pub AreTypes : List Bool → List ℕ → ℕ → Type 0
AreTypes present types base = (place : ℕ) → place < 256 → get_or present place false ≡ has_type types (base + place)

-- the weight of a bit, if its type is among others
abbrev pub weight_if : List ℕ → ℕ → ℕ → ℕ
weight_if types number weight = if has_type types number then weight else 0

-- the octet whose bits are set for the types from a number on
abbrev pub octet_of : List ℕ → List ℕ → ℕ → ℕ
octet_of [] types number = 0
octet_of (weight ∷ rest) types number = weight_if types number weight + octet_of rest types (number + 1)

-- that many octets, the first bit of which is the type with a number
abbrev pub octets_from : List ℕ → ℕ → ℕ → List ℕ
octets_from types base zero = []
octets_from types base (suc count) = octet_of weights types base ∷ octets_from types (base + 8) count

-- How many octets a window needs: the length of its bitmap is determined by the greatest of its types, so that no trailing
-- octet is zero. `sofar` octets are needed anyway.
abbrev pub octets_needed : ℕ → List ℕ → ℕ → ℕ
octets_needed sofar [] window = sofar
octets_needed sofar (number ∷ types) window =
    octets_needed (if number / 256 == window then max sofar (number % 256 / 8 + 1) else sofar) types window

-- a block: the number of the window, the number of octets, and the octets; none for a window without types
abbrev pub block_of : List ℕ → ℕ → ℕ → List ℕ
block_of types window zero = []
block_of types window (suc n) = window ∷ suc n ∷ octets_from types (256 * window) (suc n)

-- the block of a window
abbrev pub block : List ℕ → ℕ → List ℕ
block types window = block_of types window (octets_needed 0 types window)

-- the blocks of some windows, in ascending order
unfoldable pub blocks : List ℕ → ℕ → ℕ → List ℕ
blocks types window zero = []
blocks types window (suc count) = block types window ++ blocks types (window + 1) count

-- the bitmap of types, in 256 windows
unfoldable pub bitmap_of : List ℕ → List ℕ
bitmap_of types = blocks types 0 256

-- ---- the set of a bitmap

-- the type of a bit, if an octet has the bit, whose weight is the greatest that the octet may have
abbrev pub bit_types : ℕ → ℕ → ℕ → List ℕ
bit_types weight number octet = if nat_le weight octet then number ∷ [] else []

-- what is left of the octet without that bit
abbrev pub without : ℕ → ℕ → ℕ
without weight octet = if nat_le weight octet then octet - weight else octet

-- the types of an octet's bits, from a number on
abbrev pub types_of_octet : List ℕ → ℕ → ℕ → List ℕ
types_of_octet [] number octet = []
types_of_octet (weight ∷ rest) number octet =
    bit_types weight number octet ++ types_of_octet rest (number + 1) (without weight octet)

-- the types of octets, the first bit of which is the type with a number
abbrev pub types_of_octets : ℕ → List ℕ → List ℕ
types_of_octets base [] = []
types_of_octets base (octet ∷ octets) = types_of_octet weights base octet ++ types_of_octets (base + 8) octets

-- the types of blocks, after `left` octets of the block before, which begin with the type `base`
abbrev pub types_of : ℕ → ℕ → List ℕ → List ℕ
types_of base zero [] = []
types_of base zero (window ∷ []) = []
types_of base zero (window ∷ count ∷ rest) = types_of (256 * window) count rest
types_of base (suc left) [] = []
types_of base (suc left) (octet ∷ rest) = types_of_octet weights base octet ++ types_of (base + 8) left rest

-- Blocks of windows from `least` on, in ascending order, each with 1 to 32 octets, the last of which is not zero; `left`
-- octets of the block before precede them.
abbrev pub is_bitmap : ℕ → ℕ → List ℕ → Bool
is_bitmap least zero [] = true
is_bitmap least zero (window ∷ []) = false
is_bitmap least zero (window ∷ count ∷ rest) =
    nat_le least window && (nat_le 1 count && (nat_le count 32 && is_bitmap (window + 1) count rest))
is_bitmap least (suc left) [] = false
is_bitmap least (suc zero) (octet ∷ rest) = not (octet == 0) && is_bitmap least 0 rest
is_bitmap least (suc (suc left)) (octet ∷ rest) = is_bitmap least (suc left) rest

-- whether the front of bytes is a block of a window from `least` on, with a number of octets
abbrev pub has_block : ℕ → ℕ → List ℕ → Bool
has_block least count bytes =
    nat_le least (get_or bytes 0 0) && (nat_le 1 count && (nat_le count 32
    && (nat_le (count + 2) (length bytes) && not (get_or bytes (count + 1) 0 == 0))))

-- the length of the block at the front of bytes, if it is one of a window from `least` on
abbrev pub block_len : ℕ → List ℕ → Option ℕ
block_len least bytes =
    if nat_lt (length bytes) 2 then None
    else if has_block least (get_or bytes 1 0) bytes then Some (get_or bytes 1 0 + 2) else None

-- types by their names, a blank before each; types are numbers of 16 bits
abbrev pub spaced_types : List ℕ → List ℕ
spaced_types types = flat_map (λ number. 32 ∷ word_of_type (number % 65536)) types
